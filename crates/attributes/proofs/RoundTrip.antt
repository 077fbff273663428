-- The round trip: written octets of an attribute read back as the attribute, wherever they stand.
--     reads_option, reads_values          an option's value, and all of them
--     round_trip                          the theorem: under `Written`, `attribute` reads `attribute_octets a` as a
-- Assumes nothing.
use Prim.Native.Nat.{ℕ, ◌+◌, ◌-◌, ◌<◌, ◌%◌}
use native.Mathlib.Omega.{arith}
use mathlib.Core.Path.{◌≡◌, refl, sym, ap}
use mathlib.Core.Bool.{Bool, true, false, not, cond}
use mathlib.Core.List.{List, [], ◌++◌, append-nil}
use borrow.Author.Tests.{le-ltb, eq-eqb}
use Rattle.octets.specs.Octets.{be}
use Rattle.format.specs.Reader.{Reader, ◌>>=◌, ◌>>◌, give, octets, number}
use Rattle.format.proofs.Readers.{Reads, reads_give, reads_bind, reads_last, reads_done, reads_here, reads_refuse, reads_octets, reads_number}
use Rattle.attributes.specs.Options.{Option, transit, stub, minimum_speed, maximum_speed, domain, node, diameter, time_zone, size_of, has_bit, present, sizes, unallocated}
use Rattle.attributes.specs.Attribute.{is_pop_count, has_e, length_agrees, optional, values, attribute, option_octets, values_octets, attribute_octets}
use Rattle.attributes.specs.Written.{value_of, Given, Written}
use Rattle.attributes.specs.declared.read.Attribute.{Attribute}
use Rattle.attributes.specs.declared.options.Values.{Values}
use Rattle.attributes.proofs.Lengths.{sizes_most}

-- ---- the values

reads_option : (w : ℕ) (i : Option) (n : ℕ) → Given w i n → Reads (optional w i) n (option_octets w i n)
unfolding optional option_octets
reads_option w i n h = go (present w i) refl
  where
    go : (b : Bool) → present w i ≡ b → Reads (cond b (number (size_of i)) (give 0)) n (cond b (be (size_of i) n) [])
    go true e = reads_number n (size_of i) h.fits
    go false e = rw (h.absent e) (reads_give 0)

reads_values : (w : ℕ) (v : Values) → ((i : Option) → Given w i (value_of v i)) → Reads (values w) v (values_octets w v)
unfolding values values_octets value_of
reads_values w v h =
    reads_bind _ (reads_option w transit _ (h transit))
    (reads_bind _ (reads_option w stub _ (h stub))
    (reads_bind _ (reads_option w minimum_speed _ (h minimum_speed))
    (reads_bind _ (reads_option w maximum_speed _ (h maximum_speed))
    (reads_bind _ (reads_option w domain _ (h domain))
    (reads_bind _ (reads_option w node _ (h node))
    (reads_bind _ (reads_option w diameter _ (h diameter))
    (reads_last _ (reads_option w time_zone _ (h time_zone)))))))))

-- ---- the first octet and the length

-- "written F is 0, E as the caller says"
abbrev first : Bool → ℕ
first e = cond e 0x43 0x03

first_is : (e : Bool) → (first e < 256) × (is_pop_count (first e) ≡ true) × (has_e (first e) ≡ e)
unfolding is_pop_count has_e has_bit
first_is true = (omega arith, refl, refl)
first_is false = (omega arith, refl, refl)

exact : (w : ℕ) → w % 256 ≡ 0 → length_agrees (6 + sizes w) w ≡ true
unfolding length_agrees unallocated
exact w e = rw (eq-eqb _ _ e, eq-eqb (6 + sizes w) (6 + sizes w) refl)

-- ---- the attribute

-- of octets after which none are ignored
last : {r : Reader Values} {v : Values} {x : List ℕ} (k : ℕ) (g : Values → Attribute) → k ≡ 0 → Reads r v x
    → Reads (r >>= (λ v. octets k >> give (g v))) (g v) x
last {r} {v} {x} k g e h =
    let all : Reads (r >>= (λ v. octets k >> give (g v))) (g v) (x ++ []) = reads_bind _ h (reads_done (g v) (reads_octets [] k (sym e))) in
    rw (append-nil x) at all

pub round_trip : (a : Attribute) → Written a → Reads attribute a (attribute_octets a)
unfolding attribute attribute_octets
round_trip a h =
    let w : ℕ = a.options in
    let f = first_is a.e in
    let n : ℕ = 6 + sizes w in
    let all : Reads attribute (record { e = has_e (first a.e); mtu = a.mtu; flags = a.flags; options = w; values = a.values }) (attribute_octets a) =
    reads_here (λ at.
    reads_bind _ (reads_number (first a.e) 1 f.0)
    (reads_refuse _ 13 at (ap not f.1)
    (reads_bind _ (reads_number n 1 (omega (arith, sizes_most w)))
    (reads_refuse _ 13 at (le-ltb n 6 (omega arith))
    (reads_bind _ (reads_number a.mtu 2 h.mtu)
    (reads_bind _ (reads_number a.flags 2 h.flags)
    (reads_bind _ (reads_number w 2 h.options)
    (reads_refuse _ 13 at (ap not (exact w h.allocated))
    (last (n - (6 + sizes w)) _ (omega arith) (reads_values w a.values h.values)))))))))) in
    rw f.2 at all
