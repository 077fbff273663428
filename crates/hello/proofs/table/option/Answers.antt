-- `hello::table::option` meets its contract: cut in its type or length, refused, or, by its four first octets, a known option or
-- any other.
-- Assumes nothing.
use mathlib.Core.Path.{◌≡◌, refl, sym, ap, ◌∙◌}
use Prim.Native.Nat.{◌/◌}
use lib.ListN.{take, drop}
use Rattle.octets.specs.Field.{ignored}
use Rattle.octets.proofs.Laws.{number_bad, read_got, read_cut}
use Rattle.format.specs.Reader.{◌>>◌, give}
use Rattle.hello.specs.Options.{length_of, hear}
use Rattle.hello.specs.Answers.{is_known, refused_as, said_at, stepped}
use Rattle.hello.specs.declared.table.Known.{Known}
use Rattle.hello.specs.declared.table.Known.TheVariants.{Holdtime, Priority, Packing, Other}
use Rattle.hello.proofs.Laws.{short_back, Head, head, begins, option_refused, known_taken, other_taken}
use Rattle.hello.proofs.table.option.Goals as goal
use Rattle.hello.proofs.table.option.Goals.{After-is_refused, After-option_beginning-k, After-places_with-places}

-- once the type and the length are there
found : (c : After-option_beginning-k)
    → Head c.args.m.now c.args.at c.in-Some.head c.in-Some.value_at
found c =
    head _ _ (λ i. (c.type_inv.m i).fits) (read_got (λ n. n) c.args.at c.read.ensures c.in-Some.is)

-- whether the option k is refused
refused : (c : After-is_refused) (k : Known) → c.option_beginning-k.result ≡ k
    → c.is_refused.result ≡ refused_as (said_at c.args.m.now c.args.p) k (c.in-Some.head / 65536)
refused c k e =
    let o = c.args.m.now in
    c.is_refused.ensures o
    ∙ ap (λ (x : Known). refused_as (said_at o c.args.p) x (c.in-Some.head / 65536)) e

-- what is said with the option k
said_with : (c : After-places_with-places) → (k : Known) → c.option_beginning-k.result ≡ k
    → let o = c.args.m.now in
    said_at o c.places_with-places.result ≡ hear (said_at o c.args.p) k (take (length_of k 0) (drop c.in-Some.value_at o))
said_with c k e =
    let o = c.args.m.now in
    c.places_with-places.ensures o 0
    ∙ ap (λ (x : Known). hear (said_at o c.args.p) x (take (length_of x 0) (drop c.in-Some.value_at o))) e

pub cut_head-requires : goal.cut_head-requires
cut_head-requires c =
    let a = c.args in
    short_back 4 a.m.now a.at (number_bad 4 a.m.now a.at (read_cut (λ n. n) a.at c.read.ensures c.in_default.is))

pub returns-then-is_refused : goal.returns-then-is_refused
unfolding stepped
returns-then-is_refused c =
    let a = c.args in
    let o = a.m.now in
    rw c.at.ensures (sym (option_refused (found (goal.at.returns-then-is_refused c).After-option_beginning-k) (said_at o a.p) _ c.option_beginning-k.ensures (c.is_refused.ensures o) c.if-is_refused.true))

pub returns-in-Holdtime : goal.returns-in-Holdtime
unfolding length_of is_known ignored ◌>>◌ give
returns-in-Holdtime c =
    let o = c.args.m.now in
    let h = found (goal.at.returns-in-Holdtime c).After-option_beginning-k in
    let k = c.in-Holdtime.is in
    let e = sym k ∙ c.option_beginning-k.ensures in
    c.taken.ensures
    ∙ known_taken h (said_at o c.args.p) Holdtime (λ x. 0) _ refl e (begins _ Holdtime e) (refused (goal.at.returns-in-Holdtime c).After-is_refused Holdtime k) c.if-is_refused.false (said_with (goal.at.returns-in-Holdtime c).After-places_with-places Holdtime k)

pub returns-in-Priority : goal.returns-in-Priority
unfolding length_of is_known ignored ◌>>◌ give
returns-in-Priority c =
    let o = c.args.m.now in
    let h = found (goal.at.returns-in-Priority c).After-option_beginning-k in
    let k = c.in-Priority.is in
    let e = sym k ∙ c.option_beginning-k.ensures in
    c.taken-in-Priority.ensures
    ∙ known_taken h (said_at o c.args.p) Priority (λ x. 0) _ refl e (begins _ Priority e) (refused (goal.at.returns-in-Priority c).After-is_refused Priority k) c.if-is_refused.false (said_with (goal.at.returns-in-Priority c).After-places_with-places Priority k)

pub returns-in-Packing : goal.returns-in-Packing
unfolding length_of is_known ignored ◌>>◌ give
returns-in-Packing c =
    let o = c.args.m.now in
    let h = found (goal.at.returns-in-Packing c).After-option_beginning-k in
    let k = c.in-Packing.is in
    let e = sym k ∙ c.option_beginning-k.ensures in
    c.taken-in-Packing.ensures
    ∙ known_taken h (said_at o c.args.p) Packing (λ x. 0) _ refl e (begins _ Packing e) (refused (goal.at.returns-in-Packing c).After-is_refused Packing k) c.if-is_refused.false (said_with (goal.at.returns-in-Packing c).After-places_with-places Packing k)

pub returns-in-Other : goal.returns-in-Other
unfolding hear said_at ignored ◌>>◌ give
returns-in-Other c =
    let o = c.args.m.now in
    let h = found (goal.at.returns-in-Other c).After-option_beginning-k in
    let k = c.in-Other.is in
    c.taken-in-Other.ensures
    ∙ other_taken h (said_at o c.args.p) (λ x. 0) _ (sym k ∙ c.option_beginning-k.ensures) (refused (goal.at.returns-in-Other c).After-is_refused Other k) c.if-is_refused.false (said_with (goal.at.returns-in-Other c).After-places_with-places Other k)
