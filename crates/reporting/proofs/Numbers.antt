-- By which numbers messages are refused: 1 to 7 and 13.
--     Numbered, Numbers     what a reader comes to, and a reader: whatever it refuses by is one of these
--     Ruled, ruled          what a call comes to, and a message
-- Each reader's law has the lines of its definition. Assumes nothing.
use Prim.Native.Nat.{ℕ, zero, suc, ◌+◌, ◌/◌}
use mathlib.Core.Path.{◌≡◌, refl}
use mathlib.Core.Bool.{Bool, true, false, not, ◌||◌, cond}
use mathlib.Core.List.{List}
use lib.ListN.{length}
use lib.Dec.{eqb, ltb, leb}
use Rattle.records.specs.Records.{r_bit}
use Rattle.format.specs.Outcome.{Outcome, gives, refuses, refuse_if, ◌>>=◌ as ◌and_then◌, ◌>>◌ as ◌and◌}
use Rattle.format.specs.Reader.{Read, got, bad, Reader, continue, ◌>>=◌, ◌>>◌, give, here, octets, number, must, refuse, times, to_end, records, nothing_more, outcome, from}
use Rattle.format.specs.Family.{Family, ipv4}
use Rattle.format.specs.Address.{group_field, source_field}
use Rattle.format.specs.Path.{nowhere}
use Rattle.format.specs.Header.{sums, header, kind_of, register_kind, shortest, longest}
use Rattle.format.specs.Record.{assert_record, pair_record, positive, group_record, source_aggregated, rp_aggregated, aggregated_record}
use Rattle.format.specs.Body.{zero_reserved, asserts_body, pairs_body}
use Rattle.format.specs.Unpacking.{Unpacked, unpacked, unpack_asserts, unpack_pairs}
use Rattle.format.specs.declared.Kind.{Kind}
use Rattle.format.specs.declared.Kind.TheVariants.{Hello, Assert, Simple, Aggregated, NullRegister, RegisterStop}
use Rattle.hello.specs.Options.{Said, nothing, option_value, option, options}
use Rattle.hello.specs.Hello.{hello_options, hello_body, read_hello}
use Rattle.reporting.specs.Judging.{entries_in, judged_as, judged}
use Rattle.reporting.specs.Claims.{of_message}

-- ---- readers

pub data Numbered {A : Type 0} : Read A → Type 0 where
  value : {a : A} {next : ℕ} → Numbered (got a next)
  by : {n p : ℕ} → of_message n ≡ true → Numbered (bad n p)

pub record Numbers {A : Type 0} (r : Reader A) : Type 0 where
  pub all : (o : List ℕ) (at : ℕ) → Numbered (r o at)

numbered_continue : {A B : Type 0} (k : A → ℕ → Read B) → ((a : A) (next : ℕ) → Numbered (k a next)) → (x : Read A) → Numbered x → Numbered (continue x k)
unfolding continue
numbered_continue k hk (got a next) h = hk a next
numbered_continue k hk (bad n p) (by h) = by h

numbered_cond : {A : Type 0} (b : Bool) {x y : Read A} → Numbered x → Numbered y → Numbered (cond b x y)
numbered_cond true hx hy = hx
numbered_cond false hx hy = hy

numbers_give : {A : Type 0} (a : A) → Numbers (give a)
unfolding give
numbers_give a = record { all = λ o at. value }

numbers_bind : {A B : Type 0} {r : Reader A} {k : A → Reader B} → Numbers r → ((a : A) → Numbers (k a)) → Numbers (r >>= k)
unfolding ◌>>=◌
numbers_bind {r = r} hr hk = record { all = λ o at. numbered_continue _ (λ a next. (hk a).all o next) (r o at) (hr.all o at) }

numbers_then : {A B : Type 0} {r : Reader A} {s : Reader B} → Numbers r → Numbers s → Numbers (r >> s)
unfolding ◌>>=◌ ◌>>◌
numbers_then hr hs = numbers_bind hr (λ a. hs)

numbers_here : Numbers here
unfolding here
numbers_here = record { all = λ o at. value }

numbers_octets : (k : ℕ) → Numbers (octets k)
unfolding octets of_message
numbers_octets k = record { all = λ o at. numbered_cond (leb (at + k) (length o)) value (by refl) }

numbers_number : (k : ℕ) → Numbers (number k)
unfolding number
numbers_number k = numbers_bind (numbers_octets k) λ x. numbers_give _

numbers_must : {A : Type 0} {r : Reader A} (n : ℕ) (test : A → Bool) → of_message n ≡ true → Numbers r → Numbers (must n test r)
unfolding must
numbers_must {r = r} n test h hr = record { all = λ o at. numbered_continue _ (λ a next. numbered_cond (test a) value (by h)) (r o at) (hr.all o at) }

numbers_refuse : (test : Bool) (n p : ℕ) → of_message n ≡ true → Numbers (refuse test n p)
unfolding refuse
numbers_refuse test n p h = record { all = λ o at. numbered_cond test (by h) value }

numbers_cond : {A : Type 0} {r s : Reader A} (b : Bool) → Numbers r → Numbers s → Numbers (cond b r s)
numbers_cond true hr hs = hr
numbers_cond false hr hs = hs

numbers_times : {A : Type 0} {r : Reader A} (n : ℕ) → Numbers r → Numbers (times n r)
unfolding times
numbers_times zero hr = numbers_give _
numbers_times (suc n) hr =
    numbers_bind hr λ a.
    numbers_bind (numbers_times n hr) λ l.
    numbers_give _

numbers_to_end : {A : Type 0} {r : Reader A} (n : ℕ) → Numbers r → Numbers (to_end n r)
unfolding to_end
numbers_to_end zero hr = record { all = λ o at. value }
numbers_to_end {r = r} (suc n) hr =
    let again = numbers_to_end n hr in
    record { all = λ o at. numbered_cond (leb (length o) at) value (numbered_continue _ (λ a next. numbered_continue _ (λ l end. value) (to_end n r o next) (again.all o next)) (r o at) (hr.all o at)) }

numbers_records : {A : Type 0} {r : Reader A} → Numbers r → Numbers (records r)
unfolding records of_message
numbers_records {r = r} hr = record { all = λ o at. numbered_cond (leb (length o) at) (by refl) ((numbers_to_end (length o) hr).all o at) }

-- ---- records

module _ (f : Family) where
  numbers_group : Numbers (group_field f)
  unfolding group_field of_message
  numbers_group = numbers_bind (numbers_must 7 _ refl (numbers_octets _)) λ x. numbers_give _

  numbers_source : (z : Bool) → Numbers (source_field f z)
  unfolding source_field of_message
  numbers_source z = numbers_bind (numbers_must 7 _ refl (numbers_octets _)) λ x. numbers_give _

  numbers_assert : Numbers (assert_record f)
  unfolding assert_record of_message
  numbers_assert =
      numbers_bind numbers_group λ g.
      numbers_bind numbers_here λ at.
      numbers_bind (numbers_source true) λ s.
      numbers_bind (numbers_number 4) λ v.
      numbers_then (numbers_refuse _ 7 at refl) (
      numbers_bind (numbers_number 4) λ m.
      numbers_give _)

  numbers_pair : (z : Bool) → Numbers (pair_record f z)
  unfolding pair_record
  numbers_pair z =
      numbers_bind numbers_group λ g.
      numbers_bind (numbers_source z) λ s.
      numbers_give _

  numbers_positive : Numbers positive
  unfolding positive of_message
  numbers_positive = numbers_must 6 _ refl (numbers_number 2)

  numbers_group_record : Numbers (group_record f)
  unfolding group_record
  numbers_group_record =
      numbers_bind numbers_group λ g.
      numbers_bind (numbers_number 2) λ p.
      numbers_then (numbers_octets 2) (
      numbers_bind (numbers_times p (numbers_source true)) λ ss.
      numbers_give _)

  numbers_source_aggregated : (v m : ℕ) → Numbers (source_aggregated f v m)
  unfolding source_aggregated
  numbers_source_aggregated v m =
      numbers_bind (numbers_source false) λ s.
      numbers_bind numbers_positive λ n.
      numbers_then (numbers_octets 2) (
      numbers_bind (numbers_times n numbers_group) λ gs.
      numbers_give _)

  numbers_rp_aggregated : (v m : ℕ) → Numbers (rp_aggregated f v m)
  unfolding rp_aggregated
  numbers_rp_aggregated v m =
      numbers_bind numbers_positive λ n.
      numbers_then (numbers_octets 2) (
      numbers_bind (numbers_times n numbers_group_record) λ rs.
      numbers_give _)

  numbers_aggregated : Numbers (aggregated_record f)
  unfolding aggregated_record
  numbers_aggregated =
      numbers_bind (numbers_number 4) λ v.
      numbers_bind (numbers_number 4) λ m.
      numbers_cond (r_bit v) (numbers_rp_aggregated v m) (numbers_source_aggregated v m)

  -- ---- bodies

  numbers_zero_reserved : Numbers zero_reserved
  unfolding zero_reserved of_message
  numbers_zero_reserved = numbers_then (numbers_must 5 _ refl (numbers_number 1)) (numbers_then (numbers_octets 3) (numbers_give _))

  numbers_nothing_more : Numbers nothing_more
  unfolding nothing_more of_message
  numbers_nothing_more = record { all = λ o at. numbered_cond (leb (length o) at) value (by refl) }

  other : {A : Type 0} → Numbers {A = A} (λ o at. bad 4 0)
  unfolding of_message
  other = record { all = λ o at. by refl }

  numbers_asserts : (k : Kind) → Numbers (asserts_body f k)
  unfolding asserts_body
  numbers_asserts Hello = other
  numbers_asserts Assert = numbers_bind numbers_assert λ e. numbers_then numbers_nothing_more (numbers_give _)
  numbers_asserts Simple = numbers_then numbers_zero_reserved (numbers_records numbers_assert)
  numbers_asserts Aggregated = numbers_then numbers_zero_reserved (numbers_bind (numbers_records numbers_aggregated) λ rs. numbers_give _)
  numbers_asserts NullRegister = other
  numbers_asserts RegisterStop = other

  numbers_pairs : (k : Kind) → Numbers (pairs_body f k)
  unfolding pairs_body
  numbers_pairs Hello = other
  numbers_pairs Assert = other
  numbers_pairs Simple = other
  numbers_pairs Aggregated = other
  numbers_pairs NullRegister = numbers_records (numbers_pair false)
  numbers_pairs RegisterStop = numbers_records (numbers_pair true)

numbers_option : (s : Said) → Numbers (option s)
unfolding option option_value of_message
numbers_option s =
    numbers_bind numbers_here λ first.
    numbers_bind (numbers_number 2) λ t.
    numbers_bind (numbers_number 2) λ n.
    numbers_then (numbers_refuse _ 13 first refl) (
    numbers_bind (numbers_octets n) λ v.
    numbers_give _)

numbers_options : (n : ℕ) (s : Said) → Numbers (options n s)
unfolding options
numbers_options zero s = record { all = λ o at. value }
numbers_options (suc n) s =
    let again = numbers_options n in
    record { all = λ o at. numbered_cond (leb (length o) at) value (numbered_continue _ (λ s' next. (again s').all o next) (option s o at) ((numbers_option s).all o at)) }

-- ---- messages

pub data Ruled {A : Type 0} : Outcome A → Type 0 where
  accepted : {a : A} → Ruled (gives a)
  refused : {n p : ℕ} → of_message n ≡ true → Ruled (refuses n p)

ruled_from : {A : Type 0} (x : Read A) → Numbered x → Ruled (outcome x)
unfolding outcome
ruled_from (got a next) h = accepted
ruled_from (bad n p) (by h) = refused h

ruled_bind : {A B : Type 0} (x : Outcome A) (k : A → Outcome B) → Ruled x → ((a : A) → Ruled (k a)) → Ruled (x and_then k)
unfolding ◌and_then◌
ruled_bind (gives a) k hx hk = hk a
ruled_bind (refuses n p) k (refused h) hk = refused h

ruled_then : {A B : Type 0} (x : Outcome A) (y : Outcome B) → Ruled x → Ruled y → Ruled (x and y)
unfolding ◌and◌
ruled_then (gives a) y hx hy = hy
ruled_then (refuses n p) y (refused h) hy = refused h

ruled_unless : (test : Bool) (n p : ℕ) → of_message n ≡ true → Ruled (refuse_if test n p)
unfolding refuse_if
ruled_unless true n p h = refused h
ruled_unless false n p h = accepted

ruled_cond : {A : Type 0} (b : Bool) {x y : Outcome A} → Ruled x → Ruled y → Ruled (cond b x y)
ruled_cond true hx hy = hx
ruled_cond false hx hy = hy

ruled_kind : (t x : ℕ) → Ruled (kind_of t x)
unfolding kind_of register_kind of_message
ruled_kind t x = ruled_cond (eqb t 0) accepted (ruled_cond (eqb t 5) accepted (ruled_cond (eqb t 13) (ruled_cond (eqb (x / 16) 0) accepted (ruled_cond (eqb (x / 16) 1) accepted (refused refl))) (refused refl)))

ruled_header : (m : List ℕ) → Ruled (header ipv4 nowhere m)
unfolding header of_message
ruled_header m =
    ruled_then _ _ (ruled_unless (ltb (length m) shortest || ltb longest (length m)) 1 0 refl) (
    ruled_then _ _ (ruled_unless _ 2 0 refl) (
    ruled_then _ _ (ruled_unless (not (sums ipv4 nowhere m)) 3 0 refl) (
    ruled_kind _ _)))

ruled_entries : {A : Type 0} (u : Unpacked A) → Ruled (entries_in u)
unfolding entries_in
ruled_entries (unpacked k es) = accepted

module _ (m : List ℕ) where
  ruled_asserts : Ruled (unpack_asserts ipv4 nowhere m and_then entries_in)
  unfolding unpack_asserts from
  ruled_asserts =
      ruled_bind _ _ (ruled_bind _ _ (ruled_header m) (λ k. ruled_bind _ _ (ruled_from _ ((numbers_asserts ipv4 k).all m 4)) (λ es. accepted))) ruled_entries

  ruled_pairs : Ruled (unpack_pairs ipv4 nowhere m and_then entries_in)
  unfolding unpack_pairs from
  ruled_pairs =
      ruled_bind _ _ (ruled_bind _ _ (ruled_header m) (λ k. ruled_bind _ _ (ruled_from _ ((numbers_pairs ipv4 k).all m 4)) (λ es. accepted))) ruled_entries

  ruled_hello : (k : Kind) → Ruled (hello_body k m)
  unfolding hello_body hello_options from of_message
  ruled_hello Hello = ruled_bind _ _ (ruled_from _ ((numbers_options (length m) nothing).all m 4)) (λ s. accepted)
  ruled_hello Assert = refused refl
  ruled_hello Simple = refused refl
  ruled_hello Aggregated = refused refl
  ruled_hello NullRegister = refused refl
  ruled_hello RegisterStop = refused refl

  ruled_as : (k : Kind) → Ruled (judged_as k m)
  unfolding judged_as read_hello
  ruled_as Hello = ruled_then _ _ (ruled_bind _ _ (ruled_header m) ruled_hello) accepted
  ruled_as Assert = ruled_asserts
  ruled_as Simple = ruled_asserts
  ruled_as Aggregated = ruled_asserts
  ruled_as NullRegister = ruled_pairs
  ruled_as RegisterStop = ruled_pairs

  pub ruled : Ruled (judged m)
  unfolding judged
  ruled = ruled_bind _ _ (ruled_header m) ruled_as
