-- What comes of a message, by its parts.
--     by_asserts, by_pairs   a message of a kind, by its body counted
--     as_asserts, as_pairs   that is what comes of it, where an arm of the code has the kinds of either sort
--     by_said         a Hello, by its options
--     by_checked      the same where what they say is not asked
--     judged_kind     what its header accepts is judged by its kind
--     judged_none     what its header refuses is refused so
--     records_few     an accepted message has no more records than octets
-- Assumes nothing.
use Prim.Native.Nat.{ℕ, ◌≤◌}
use native.Mathlib.Omega.{arith}
use mathlib.Core.Path.{◌≡◌, refl, sym, subst, ◌∙◌}
use mathlib.Core.Logic.{◌⊎◌, inl, inr}
use mathlib.Core.List.{List}
use lib.ListN.{length}
use Rattle.format.specs.Outcome.{Outcome, gives, refuses, ◌>>=◌, ◌>>◌}
use Rattle.format.specs.Reader.{Read, got, bad, from, outcome}
use Rattle.format.specs.Family.{ipv4}
use Rattle.format.specs.Path.{nowhere}
use Rattle.format.specs.Header.{header}
use Rattle.format.specs.Body.{asserts_body, pairs_body}
use Rattle.format.specs.Unpacking.{unpacked, unpack_asserts, unpack_pairs}
use Rattle.format.specs.Reading.{Found, found}
use Rattle.format.specs.declared.Kind.{Kind}
use Rattle.format.specs.declared.Kind.TheVariants.{Hello, Assert, Simple, Aggregated, NullRegister, RegisterStop}
use Rattle.counting.specs.Counts.{tallied}
use Rattle.counting.proofs.Few.{Few, few_asserts, few_pairs}
use Rattle.headers.proofs.Headers.{header_room}
use Rattle.hello.specs.Hello.{Hello as HelloSaid, hello_options, options_fine, hello_body, read_hello}
use Rattle.reporting.specs.Judging.{entries_in, judged_as, judged}
use Rattle.reporting.specs.Answers.{count_of, heard_of}

by_entries : {A : Type 0} (k : Kind) (x : Read (List A)) → count_of k (tallied length x) ≡ outcome x >>= (λ es. gives (unpacked k es)) >>= entries_in
unfolding count_of tallied outcome ◌>>=◌ entries_in
by_entries k (got es next) = refl
by_entries k (bad n p) = refl

by_asserts : (k : Kind) (m : List ℕ) {c : Read ℕ} → header ipv4 nowhere m ≡ gives k → c ≡ tallied length (asserts_body ipv4 k m 4) → count_of k c ≡ unpack_asserts ipv4 nowhere m >>= entries_in
unfolding unpack_asserts ◌>>=◌ from
by_asserts k m h e = rw (e, h) (by_entries k (asserts_body ipv4 k m 4))

by_pairs : (k : Kind) (m : List ℕ) {c : Read ℕ} → header ipv4 nowhere m ≡ gives k → c ≡ tallied length (pairs_body ipv4 k m 4) → count_of k c ≡ unpack_pairs ipv4 nowhere m >>= entries_in
unfolding unpack_pairs ◌>>=◌ from
by_pairs k m h e = rw (e, h) (by_entries k (pairs_body ipv4 k m 4))

pub as_asserts : {k : Kind} (m : List ℕ) {c : Read ℕ} → k ≡ Assert ⊎ k ≡ Simple ⊎ k ≡ Aggregated → header ipv4 nowhere m ≡ gives k
    → c ≡ tallied length (asserts_body ipv4 k m 4) → count_of k c ≡ judged_as k m
unfolding judged_as
as_asserts {k} m (inl i) h e = by_asserts k m h e ∙ rw i refl
as_asserts {k} m (inr (inl i)) h e = by_asserts k m h e ∙ rw i refl
as_asserts {k} m (inr (inr i)) h e = by_asserts k m h e ∙ rw i refl

pub as_pairs : {k : Kind} (m : List ℕ) {c : Read ℕ} → k ≡ NullRegister ⊎ k ≡ RegisterStop → header ipv4 nowhere m ≡ gives k
    → c ≡ tallied length (pairs_body ipv4 k m 4) → count_of k c ≡ judged_as k m
unfolding judged_as
as_pairs {k} m (inl i) h e = by_pairs k m h e ∙ rw i refl
as_pairs {k} m (inr i) h e = by_pairs k m h e ∙ rw i refl

pub by_said : (m : List ℕ) → header ipv4 nowhere m ≡ gives Hello → heard_of (hello_options m) ≡ judged_as Hello m
unfolding heard_of judged_as read_hello ◌>>=◌ hello_body
by_said m h = rw h refl

heard_fine : (x : Outcome HelloSaid) → heard_of (x >> gives (tt {0})) ≡ heard_of x
unfolding heard_of ◌>>◌
heard_fine (gives h) = refl
heard_fine (refuses n p) = refl

pub by_checked : (m : List ℕ) → header ipv4 nowhere m ≡ gives Hello → heard_of (options_fine m) ≡ judged_as Hello m
unfolding options_fine
by_checked m h = heard_fine (hello_options m) ∙ by_said m h

pub judged_kind : (m : List ℕ) (k : Kind) → header ipv4 nowhere m ≡ gives k → judged m ≡ judged_as k m
unfolding judged ◌>>=◌
judged_kind m k h = rw h refl

pub judged_none : (m : List ℕ) (n p : ℕ) → header ipv4 nowhere m ≡ refuses n p → judged m ≡ refuses n p
unfolding judged ◌>>=◌
judged_none m n p h = rw h refl

-- ---- how many records

abbrev pub FewIn : ℕ → Outcome Found → Type 0
FewIn most (gives (found k n)) = n ≤ most
FewIn most (refuses n p) = Unit {0}

few_counted : (k : Kind) (most : ℕ) (x : Read ℕ) → Few 0 most x → FewIn most (count_of k x)
unfolding count_of
few_counted k most (got n next) h = omega arith
few_counted k most (bad n p) h = tt

few_heard : (most : ℕ) (h : Outcome HelloSaid) → FewIn most (heard_of h)
unfolding heard_of ◌>>◌
few_heard most (gives a) = omega arith
few_heard most (refuses n p) = tt

module _ (m : List ℕ) (k : Kind) (h : header ipv4 nowhere m ≡ gives k) where
  room : 4 ≤ length m
  room = (header_room ipv4 nowhere m k h).0

  asserts_few : FewIn (length m) (unpack_asserts ipv4 nowhere m >>= entries_in)
  asserts_few = subst (FewIn (length m)) (by_asserts k m h refl) (few_counted k (length m) _ (few_asserts ipv4 m room k))

  pairs_few : FewIn (length m) (unpack_pairs ipv4 nowhere m >>= entries_in)
  pairs_few = subst (FewIn (length m)) (by_pairs k m h refl) (few_counted k (length m) _ (few_pairs ipv4 m room k))

few_as : (m : List ℕ) (k : Kind) → header ipv4 nowhere m ≡ gives k → FewIn (length m) (judged_as k m)
unfolding judged_as
few_as m Hello h = subst (FewIn (length m)) (by_said m h) (few_heard (length m) (hello_options m))
few_as m Assert h = asserts_few m Assert h
few_as m Simple h = asserts_few m Simple h
few_as m Aggregated h = asserts_few m Aggregated h
few_as m NullRegister h = pairs_few m NullRegister h
few_as m RegisterStop h = pairs_few m RegisterStop h

pub records_few : (m : List ℕ) → FewIn (length m) (judged m)
records_few m = go (header ipv4 nowhere m) refl
  where
    go : (x : Outcome Kind) → header ipv4 nowhere m ≡ x → FewIn (length m) (judged m)
    go (gives k) e = subst (FewIn (length m)) (sym (judged_kind m k e)) (few_as m k e)
    go (refuses n p) e = subst (FewIn (length m)) (sym (judged_none m n p e)) tt
