-- What a packing call comes to.
--     limit_refused, limit_asked     what the answer of `asked` says
--     asked_limit                    the limit is one that a message can be asked for with
--     call_refused, call_packs       the call is refused, or packs them
-- Assumes nothing.
use mathlib.Core.Bool.{Bool}
use Prim.Native.Nat.{ℕ, ◌≤◌}
use mathlib.Core.Path.{◌≡◌, refl, sym, ap, ap₂, ◌∙◌}
use mathlib.Core.List.{List}
use lib.ListN.{length, drop}
use Rattle.octets.specs.Octets.{put}
use Rattle.format.specs.Outcome
use Rattle.format.specs.Outcome.{Outcome, gives, refuses}
use Rattle.format.specs.Entry.{Entries, entries_of}
use Rattle.format.specs.Family.{family_of}
use Rattle.format.specs.Header.{longest}
use Rattle.format.specs.Packing.{least_limit, Form, Due, due, asked, Packed, octets_of, took_of, pack, wrote, written, pack_due, packing}
use Rattle.format.specs.declared.Kind.{Kind}
use Rattle.format.specs.declared.Path.{Path}
use Rattle.format.specs.declared.Refusal.{Refusal}
use Rattle.format.proofs.Outcomes.{no_refusal, gives_same}
use Rattle.format.proofs.Calls.{limit_range, Asked, asked_gives, gives_asked}
use Rattle.format.proofs.Families.{least_usual}
use Rattle.packing.specs.Answers.{limit_of, limited}
use Rattle.entries.specs.Kinds.{entries_for}
use Rattle.entries.proofs.ByKind.{family_is}
use Rattle.std.specs.Prelude.{Result, Ok, Err}
use Rattle.format.specs.Outcome.{reason_number}

pub limit_refused : {A : Type 0} (x : Outcome (Due A)) {a : Result ℕ Refusal} {r : Refusal} → a ≡ Err r → limit_of a ≡ limited x → x ≡ refuses (reason_number r.reason) r.place
unfolding limit_of limited
limit_refused (gives (due l es)) p q = absurd (no_refusal (sym (ap limit_of p) ∙ q))
limit_refused (refuses n p) {r = r} e q = let same : ◌≡◌ {A = Outcome ℕ} (refuses n p) (refuses (reason_number r.reason) r.place) = sym q ∙ ap limit_of e in ap₂ refuses (cc) (cc)

pub limit_asked : (E : Entries) (o : List ℕ) (start limit room : ℕ) {a : Result ℕ Refusal} {l : ℕ} → a ≡ Ok l → limit_of a ≡ limited (asked E o start limit room) → Asked E o start limit room l
unfolding limit_of limited
limit_asked E o start limit room {a} {l} p q = go (asked E o start limit room) refl (sym q ∙ ap limit_of p)
  where
    go : (x : Outcome (Due E.Entry)) → asked E o start limit room ≡ x → limited x ≡ gives l → Asked E o start limit room l
    go (gives (due m es)) e s = let same : m ≡ l = gives_same s in (gives_asked E o start limit room l es (e ∙ rw same)).0
    go (refuses n i) e s = absurd (no_refusal s)

pub call_refused : {E : Entries} (F : Form E) (path : Path) (o : List ℕ) (start limit : ℕ) (d : List ℕ) (n p : ℕ) → asked E o start limit (length d) ≡ refuses n p
    → packing F path o start limit d ≡ record { answer = refuses n p; buffer = d }
unfolding packing written Outcome.◌>>=◌
call_refused F path o start limit d n p e = rw e

-- the limit that was read
pub asked_limit : (ipv6 : Bool) (k : Kind) (o : List ℕ) (start limit room l : ℕ) → Asked (entries_for ipv6 k) o start limit room l → (least_limit (family_of ipv6) ≤ l) × (l ≤ longest)
asked_limit ipv6 k o start limit room l h =
    let range = limit_range (family_of ipv6) limit l (rw (family_is ipv6 k) at h.limit_read) in
    (range.0 (least_usual ipv6), range.1)

-- a call that is not refused packs the entries from the start on
pub call_packs : {E : Entries} (F : Form E) (path : Path) (o : List ℕ) (start limit l : ℕ) (d : List ℕ) (p : Packed) → Asked E o start limit (length d) l → p ≡ pack F path l (drop start (entries_of E o))
    → packing F path o start limit d ≡ record { answer = gives (wrote (length (octets_of p)) (took_of p)); buffer = put d 0 (octets_of p) }
unfolding packing pack_due written Outcome.◌>>=◌
call_packs {E} F path o start limit l d p h e = rw (asked_gives E o start limit (length d) l h, ← e)
