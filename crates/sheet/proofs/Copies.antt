-- Octets copied and numbers stored, as the code does it.
--     Copying                           where a loop that copies stands: copying_start, copying_there, copying_next, copying_end
--     copied_into                       octets copied from a part into a part
--     number_into, written_next         a number written into a part; one written where it fits, and what is written past it
--     length_two, header_written        a header, by its three pairs
--     halves_written, low_written, front_word, row_written     a row, by its parts
--     length_fronted, fronted_none      entries that are given a front
--     Spreading                         where a loop that gives it to them stands: spreading_start, spreading_there, spreading_next, spreading_end
--     size_in, copied_room, copied_entries, spread_room, spread_entries     the entries of a section, by the form
--     Rowing                            where a loop that writes rows stands: rowing_start, rowing_there, rowing_next, rowing_end
-- Assumes nothing.
use Prim.Native.Nat.{ℕ, zero, suc, ◌+◌, ◌-◌, ◌*◌, ◌/◌, ◌%◌, ◌≤◌, ◌<◌}
use native.Mathlib.Nat.{mul-suc, mul-zero, zero-add, add-zero, mul-le-mul_left}
use native.Mathlib.Omega.{arith}
use mathlib.Core.Path.{◌≡◌, refl, sym, ap, ◌∙◌}
use mathlib.Core.Bool.{Bool, true, false, cond}
use mathlib.Core.List.{List, [], ◌∷◌, ◌++◌, append_assoc, append-nil}
use lib.ListN.{length, get_or, set, take, drop, length-append, length-drop, drop_of_length-le}
use lib.Seq.{take-add, take_all, take-suc, drop-drop, drop-cons, length-take-le}
use borrow.Rule.Slice.PartMut.{put_mid}
use Rattle.octets.specs.Octets.{put, be, value, copied}
use Rattle.octets.specs.Field.{fitted}
use Rattle.octets.proofs.Laws.{length_be, be_value, be_above, be_two, stores_put, put_nil, put_next, put_number_next, length_put, number_fits, length_fitted, copied_part}
use Rattle.format.specs.Family.{Family, family_of}
use Rattle.format.proofs.Families.{lawful}
use Rattle.addresses.proofs.Laws.{front_four}
use Rattle.format.specs.Record.{each}
use Rattle.format.proofs.Lengths.{each_append}
use Rattle.format.specs.declared.Kind.{Kind}
use Rattle.entries.specs.Kinds.{entries_with}
use Rattle.sections.specs.declared.layout.Form.{Form}
use Rattle.neighbours.specs.Rows.{address_of, used}
use Rattle.neighbours.specs.declared.Neighbour.{Neighbour}
use Rattle.neighbours.specs.declared.Table.{Table}
use Rattle.neighbours.proofs.Rows.{used_long}
use Rattle.sections.specs.Layout.{Layout, ipv6_in, prefixed_in, row_size, header_size, pairs_from, rows_from, header_octets}
use Rattle.sections.specs.Contents.{row_octets}
use Rattle.sections.specs.declared.Counts.{Counts}
use Rattle.sheet.specs.Calls.{fronted, lacking}
use Rattle.sheet.proofs.Rows.{length_row, length_rows}

-- ---- octets copied

-- after i of n octets
pub record Copying (s : List ℕ) (from n : ℕ) (d₀ : List ℕ) (at : ℕ) (d : List ℕ) (i : ℕ) : Type 0 where
  pub there : from + n ≤ length s
  pub room : at + n ≤ length d₀
  pub within : i ≤ n
  pub same : length d ≡ length d₀
  pub gives : d ≡ put d₀ at (take i (drop from s))

pub copying_start : {s : List ℕ} {from n : ℕ} {d : List ℕ} {at : ℕ} → from + n ≤ length s → at + n ≤ length d → Copying s from n d at d 0
copying_start {d = d} {at} there room =
    record { there = there; room = room; within = omega arith; same = refl; gives = sym (put_nil d at) }

module _ {s : List ℕ} {from n : ℕ} {d₀ : List ℕ} {at : ℕ} {d : List ℕ} {i : ℕ} (c : Copying s from n d₀ at d i) where
  pub copying_there : i < n → (from + i < length s) × (at + i < length d)
  copying_there h = (omega (arith, c.there), omega (arith, c.room, c.same))

  pub copying_next : {d' : List ℕ} {i' : ℕ} → i < n → d' ≡ set d (at + i) (get_or s (from + i) 0) → i' ≡ i + 1 → Copying s from n d₀ at d' i'
  copying_next {d'} {i'} h p q =
      let front : List ℕ = take i (drop from s) in
      let next : List ℕ = get_or s (from + i) 0 ∷ [] in
      let fits = copying_there h in
      let long : length front ≡ i = length-take-le i (drop from s) (simp length-drop (omega (arith, fits.0))) in
      let stored : d' ≡ put d (at + i) next = p ∙ stores_put d (at + i) next (omega (arith, fits.1)) in
      let one : take 1 (drop (from + i) s) ≡ next = rw (drop-cons s (from + i) 0 fits.0) in
      let joined : front ++ next ≡ take i' (drop from s) = rw (q, take-add i 1 (drop from s), drop-drop i from s, one) in
      record {
        there = c.there;
        room = c.room;
        within = omega arith;
        same = ap length stored ∙ (length_put d (at + i) next (omega (arith, fits.1)) ∙ c.same);
        gives = put_next d₀ at front next c.gives stored (omega (arith, long)) ∙ ap (put d₀ at) joined;
      }

  pub copying_end : n ≤ i → d ≡ put d₀ at (take n (drop from s))
  copying_end h = let e : i ≡ n = omega (arith, c.within) in rw (← e) c.gives

-- k octets from a part into a part
pub copied_into : (k : ℕ) (s d : List ℕ) (from at : ℕ) {x : List ℕ} → from + k ≤ length s → at + k ≤ length d
    → x ≡ copied k (take (from + k - from) (drop from s)) (take (at + k - at) (drop at d)) → put_mid at (at + k - at) d x ≡ put d at (take k (drop from s))
copied_into k s d from at there room e = ap (put_mid at (at + k - at) d) e ∙ copied_part k s d from (from + k) at (at + k) refl refl there room

-- ---- numbers written

-- into the part between two places, which comes back as put_mid has it
pub number_into : (k n : ℕ) (d : List ℕ) (out past : ℕ) {x : List ℕ} → past ≡ out + k → past ≤ length d
    → x ≡ fitted (take (past - out) (drop out d)) 0 (be k n) → put_mid out (past - out) d x ≡ put d out (be k n)
unfolding put
number_into k n d out past e room h =
    let m : past - out ≡ k = omega arith in
    let wide : length (take k (drop out d)) ≡ k = length-take-le k (drop out d) (simp length-drop (omega arith)) in
    let whole : fitted (take k (drop out d)) 0 (be k n) ≡ be k n =
    number_fits k (take k (drop out d)) 0 n (omega arith)
    ∙ rw (length_be k n, zero-add, drop_of_length-le (take k (drop out d)) {i = k} (omega arith), append-nil) refl in
    ap (put_mid out (past - out) d) h ∙ rw (m, whole, length_be k n, drop-drop) refl

-- with m octets more to come
pub written_next : (k : ℕ) (d : List ℕ) (at n : ℕ) (f : List ℕ) {d' d'' : List ℕ} {at' : ℕ} (m : ℕ) → d' ≡ fitted d at (be k n)
    → at + (k + m) ≤ length d → at' ≡ at + k → (at' + m ≤ length d' → d'' ≡ put d' at' f) → d'' ≡ put d at (be k n ++ f)
written_next k d at n f {d'} m p h r q =
    let same : length d' ≡ length d = ap length p ∙ length_fitted d at (be k n) in
    put_number_next k d at n f (p ∙ number_fits k d at n (omega arith)) (q (omega arith)) r

-- ---- the header

pub length_two : (x y : ℕ) → length (be 4 x ++ be 4 y) ≡ 8
length_two x y = simp (length-append, length_be) (omega arith)

-- of a layout with numbers of four octets, whose front is one number
pub header_written : (L : Layout) (f : Family) → L.width ≡ 4 → (word : ℕ) → be 4 word ≡ L.front → (c : Counts) (d : List ℕ) {d₁ d₂ d₃ d₄ : List ℕ} {a p r : ℕ}
    → d₁ ≡ put d 0 (be 4 word)
    → d₂ ≡ put d₁ 4 (be 4 c.asserts ++ be 4 a) → d₃ ≡ put d₂ 12 (be 4 c.pairs ++ be 4 p) → d₄ ≡ put d₃ 20 (be 4 c.neighbours ++ be 4 r)
    → a ≡ header_size L → p ≡ pairs_from L f c → r ≡ rows_from L f c → d₄ ≡ put d 0 (header_octets L f c)
unfolding header_octets
header_written L f wide word is c d {d₁} {d₂} {d₃} {d₄} {a} {p} {r} e e₁ e₂ e₃ ea ep er =
    let asserts : List ℕ = be 4 c.asserts ++ be 4 a in
    let pairs : List ℕ = be 4 c.pairs ++ be 4 p in
    let rows : List ℕ = be 4 c.neighbours ++ be 4 r in
    let last : d₄ ≡ put d₂ 12 (pairs ++ rows) = put_next d₂ 12 pairs rows e₂ e₃ (omega (arith, length_two c.pairs p)) in
    let most : d₄ ≡ put d₁ 4 (asserts ++ (pairs ++ rows)) = put_next d₁ 4 asserts (pairs ++ rows) e₁ last (omega (arith, length_two c.asserts a)) in
    let all : d₄ ≡ put d 0 (be 4 word ++ (asserts ++ (pairs ++ rows))) =
    put_next d 0 (be 4 word) (asserts ++ (pairs ++ rows)) e most (omega (arith, length_be 4 word)) in
    rw (← ea, ← ep, ← er, ← is, wide) (all ∙ ap (put d 0) (simp append_assoc))

-- ---- a row

-- an address of 16 octets, in halves
pub halves_written : (high low : ℕ) → low < 18446744073709551616 → (d : List ℕ) (at : ℕ) {d₁ d₂ : List ℕ} {p : ℕ} → at + 16 ≤ length d
    → d₁ ≡ fitted d at (be 8 high) → d₂ ≡ fitted d₁ p (be 8 low) → p ≡ at + 8 → d₂ ≡ put d at (be 16 (high * 18446744073709551616 + low))
halves_written high low l d at {d₁} h e g q =
    let same : length d₁ ≡ length d = ap length e ∙ length_fitted d at (be 8 high) in
    put_number_next 8 d at high (be 8 low) (e ∙ number_fits 8 d at high (omega arith)) (g ∙ number_fits 8 d₁ _ low (omega arith)) q
    ∙ ap (put d at) (sym (be_two 8 8 high low l))

-- an address of 4, by the lowest bits of its low half
pub low_written : (high low : ℕ) (d : List ℕ) (at : ℕ) {d₁ : List ℕ} → at + 4 ≤ length d → d₁ ≡ fitted d at (be 4 (low % 4294967296))
    → d₁ ≡ put d at (be 4 (high * 18446744073709551616 + low))
low_written high low d at h e =
    let all : (high * 4294967296 + low / 4294967296) * 4294967296 + low % 4294967296 ≡ high * 18446744073709551616 + low = omega arith in
    e ∙ number_fits 4 d at (low % 4294967296) h
    ∙ ap (put d at) (sym (be_above 4 (high * 4294967296 + low / 4294967296) (low % 4294967296)) ∙ ap (be 4) all)

-- the front of a family as one word
pub front_word : (ipv6 : Bool) {n : ℕ} → n ≡ value (family_of ipv6).front → be 4 n ≡ (family_of ipv6).front
front_word ipv6 e = rw (e, ← front_four ipv6) (be_value (family_of ipv6).front (lawful ipv6).front_octets)

-- front, address and the rest
pub row_written : (ipv6 : Bool) (n : Neighbour) {word : ℕ} → word ≡ value (family_of ipv6).front → (d : List ℕ) (at : ℕ) {d₁ d₂ d₃ : List ℕ} {p q : ℕ}
    → at + 4 ≤ length d → d₁ ≡ fitted d at (be 4 word) → d₂ ≡ put d₁ p (be (family_of ipv6).width (address_of n))
    → d₃ ≡ put d₂ q (be 4 n.priority ++ (be 1 (cond n.has_priority 1 0 + cond n.packs 2 0) ++ (be 1 0 ++ be 2 n.holdtime)))
    → p ≡ at + 4 → q ≡ at + 4 + (family_of ipv6).width → d₃ ≡ put d at (row_octets (family_of ipv6) n)
unfolding row_octets
row_written ipv6 n {word} is d at {d₁} {d₂} {d₃} {p} room e g r ep eq =
    let w : ℕ = (family_of ipv6).width in
    let rest : List ℕ = be 4 n.priority ++ (be 1 (cond n.has_priority 1 0 + cond n.packs 2 0) ++ (be 1 0 ++ be 2 n.holdtime)) in
    let fields : d₃ ≡ put d₁ p (be w (address_of n) ++ rest) = put_number_next w d₁ p (address_of n) rest g r (omega arith) in
    put_number_next 4 d at word (be w (address_of n) ++ rest) (e ∙ number_fits 4 d at word room) fields ep
    ∙ ap (λ x. put d at (x ++ (be w (address_of n) ++ rest))) (front_word ipv6 is)

-- ---- entries, each after a word

pub length_fronted : (x : List ℕ) (size : ℕ) (o : List ℕ) (at n : ℕ) → at + size * n ≤ length o → length (fronted x size o at n) ≡ (length x + size) * n
unfolding fronted
length_fronted x size o at zero h = omega (arith, mul-zero (length x + size))
length_fronted x size o at (suc n) h =
    let s = mul-suc size n in
    let more = mul-suc (length x + size) n in
    let one : length (take size (drop at o)) ≡ size = length-take-le size (drop at o) (simp length-drop (omega arith)) in
    simp (length-append, one, length_fronted x size o (at + size) n (omega arith)) (omega arith)

-- nothing before each: the octets as they stand
pub fronted_none : (size : ℕ) (o : List ℕ) (at n : ℕ) → fronted [] size o at n ≡ take (size * n) (drop at o)
unfolding fronted
fronted_none size o at zero = rw mul-zero refl
fronted_none size o at (suc n) =
    let s : size * suc n ≡ size + size * n = omega (arith, mul-suc size n) in
    rw (fronted_none size o (at + size) n, s, take-add size (size * n) (drop at o), drop-drop size at o)

-- one more at the end
fronted_snoc : (x : List ℕ) (size : ℕ) (o : List ℕ) (at n : ℕ) → fronted x size o at (suc n) ≡ fronted x size o at n ++ (x ++ take size (drop (at + size * n) o))
unfolding fronted
fronted_snoc x size o at zero = rw (mul-zero, add-zero, append-nil)
fronted_snoc x size o at (suc n) =
    let place : at + size + size * n ≡ at + size * suc n = omega (arith, mul-suc size n) in
    ap (λ l. (x ++ take size (drop at o)) ++ l) (fronted_snoc x size o (at + size) n ∙ ap (λ p. fronted x size o (at + size) n ++ (x ++ take size (drop p o))) place)
    ∙ sym (append_assoc (x ++ take size (drop at o)) (fronted x size o (at + size) n) (x ++ take size (drop (at + size * suc n) o)))

-- after i of n entries
pub record Spreading (word size : ℕ) (s : List ℕ) (from n : ℕ) (d₀ d : List ℕ) (i : ℕ) : Type 0 where
  pub there : from + size * n ≤ length s
  pub room : (4 + size) * n ≤ length d₀
  pub within : i ≤ n
  pub same : length d ≡ length d₀
  pub gives : d ≡ put d₀ 0 (fronted (be 4 word) size s from i)

pub spreading_start : {word size : ℕ} {s : List ℕ} {from n : ℕ} {d : List ℕ} → from + size * n ≤ length s → (4 + size) * n ≤ length d → Spreading word size s from n d d 0
unfolding fronted
spreading_start {d = d} there room = record { there = there; room = room; within = omega arith; same = refl; gives = sym (put_nil d 0) }

module _ {word size : ℕ} {s : List ℕ} {from n : ℕ} {d₀ d : List ℕ} {i : ℕ} (c : Spreading word size s from n d₀ d i) where
  pub spreading_there : i < n → (from + size * i + size ≤ length s) × ((4 + size) * i + 4 + size ≤ length d)
  spreading_there h =
      let more : size * suc i ≤ size * n = mul-le-mul_left size h in
      let room : (4 + size) * suc i ≤ (4 + size) * n = mul-le-mul_left (4 + size) h in
      (omega (arith, c.there, mul-suc size i), omega (arith, c.room, c.same, mul-suc (4 + size) i))

  pub spreading_next : {d₁ d₂ : List ℕ} {p i' : ℕ} → i < n → d₁ ≡ put d ((4 + size) * i) (be 4 word)
      → d₂ ≡ put d₁ p (take size (drop (from + size * i) s)) → p ≡ (4 + size) * i + 4 → i' ≡ i + 1 → Spreading word size s from n d₀ d₂ i'
  spreading_next {d₁} {d₂} {p} {i'} h e g q j =
      let at : ℕ = (4 + size) * i in
      let entry : List ℕ = take size (drop (from + size * i) s) in
      let t = spreading_there h in
      let one : length entry ≡ size = length-take-le size (drop (from + size * i) s) (simp length-drop (omega (arith, t.0))) in
      let both : d₂ ≡ put d at (be 4 word ++ entry) = put_number_next 4 d at word entry e g q in
      let long : length (be 4 word ++ entry) ≡ 4 + size = simp (length-append, length_be, one) (omega arith) in
      let before : from + size * i ≤ length s = omega (arith, t.0) in
      let front : length (fronted (be 4 word) size s from i) ≡ (4 + size) * i = length_fronted (be 4 word) size s from i before ∙ ap (λ x. (x + size) * i) (length_be 4 word) in
      let next : i' ≡ suc i = omega (arith, j) in
      record {
        there = c.there;
        room = c.room;
        within = omega arith;
        same = ap length both ∙ length_put d at (be 4 word ++ entry) (omega (arith, long, t.1)) ∙ c.same;
        gives =
            put_next d₀ 0 (fronted (be 4 word) size s from i) (be 4 word ++ entry) c.gives both (omega (arith, front))
            ∙ ap (put d₀ 0) (sym (fronted_snoc (be 4 word) size s from i) ∙ ap (fronted (be 4 word) size s from) (sym next));
      }

  pub spreading_end : n ≤ i → d ≡ put d₀ 0 (fronted (be 4 word) size s from n)
  spreading_end h = let e : i ≡ n = omega (arith, c.within) in rw (← e) c.gives

-- ---- rows one after another

-- after i rows
pub record Rowing (f : Family) (t : Table) (d₀ : List ℕ) (at : ℕ) (d : List ℕ) (i : ℕ) : Type 0 where
  pub full : t.count ≤ length t.rows
  pub room : at + row_size f * t.count ≤ length d₀
  pub within : i ≤ t.count
  pub same : length d ≡ length d₀
  pub gives : d ≡ put d₀ at (each (row_octets f) (take i (used t)))

pub rowing_start : {f : Family} {t : Table} {d : List ℕ} {at : ℕ} → t.count ≤ length t.rows → at + row_size f * t.count ≤ length d → Rowing f t d at d 0
unfolding each
rowing_start {t = t} {d} {at} full room = record { full = full; room = room; within = omega arith; same = refl; gives = sym (put_nil d at) }

module _ {f : Family} {t : Table} {d₀ : List ℕ} {at : ℕ} {d : List ℕ} {i : ℕ} (c : Rowing f t d₀ at d i) where
  pub rowing_there : i < length (used t) → at + row_size f * i + row_size f ≤ length d
  rowing_there h =
      let many : length (used t) ≡ t.count = used_long t.rows t.count c.full in
      let more : row_size f * suc i ≤ row_size f * t.count = mul-le-mul_left (row_size f) (omega arith) in
      omega (arith, c.room, c.same, more, mul-suc (row_size f) i)

  pub rowing_next : {d' : List ℕ} {i' : ℕ} (z : Neighbour) → i < length (used t) → (place : ℕ) → place ≡ at + row_size f * i
      → d' ≡ put d place (row_octets f (get_or (used t) i z)) → i' ≡ i + 1 → Rowing f t d₀ at d' i'
  unfolding each
  rowing_next {d'} {i'} z h place here p q =
      let n : Neighbour = get_or (used t) i z in
      let front : List Neighbour = take i (used t) in
      let many : length (used t) ≡ t.count = used_long t.rows t.count c.full in
      let long : length front ≡ i = length-take-le i (used t) (omega (arith, many)) in
      let octets : length (each (row_octets f) front) ≡ row_size f * i = length_rows f front ∙ ap (λ x. row_size f * x) long in
      let row : length (row_octets f n) ≡ row_size f = length_row f n in
      let suc-i : i' ≡ suc i = omega (arith, q) in
      let more : take i' (used t) ≡ front ++ (n ∷ []) =
      ap (λ x. take x (used t)) suc-i ∙ take-suc (used t) i z h in
      let last : each (row_octets f) (front ++ (n ∷ [])) ≡ each (row_octets f) front ++ row_octets f n =
      each_append (row_octets f) front (n ∷ []) ∙ ap (λ x. each (row_octets f) front ++ x) (append-nil (row_octets f n)) in
      record {
        full = c.full;
        room = c.room;
        within = omega (arith, q);
        same = ap length p ∙ (length_put d place (row_octets f n) (omega (arith, row, rowing_there h)) ∙ c.same);
        gives =
            put_next d₀ at (each (row_octets f) front) (row_octets f n) c.gives p (omega (arith, octets))
            ∙ ap (put d₀ at) (sym (ap (each (row_octets f)) more ∙ last));
      }

  pub rowing_end : length (used t) ≤ i → d ≡ put d₀ at (each (row_octets f) (used t))
  rowing_end h =
      let all : take i (used t) ≡ used t = take_all i (used t) h in
      rw all at c.gives

-- ---- the entries of a section

module _ (k : Form) (kind : Kind) {six prefixed : Bool} (is-six : six ≡ ipv6_in k) (is-prefixed : prefixed ≡ prefixed_in k) {size : ℕ} (sized : size ≡ (entries_with six prefixed kind).size) where
  abbrev due : ℕ
  due = (entries_with (ipv6_in k) (prefixed_in k) kind).size

  pub size_in : size ≡ due
  size_in = sized ∙ (λ i. (entries_with (is-six i) (is-prefixed i) kind).size)

  -- as they stand
  module _ (yes : prefixed ≡ true) (n : ℕ) where
    lacks_none : lacking k ≡ []
    lacks_none = rw (sym is-prefixed ∙ yes)

    pub copied_room : (m : ℕ) → (length (lacking k) + due) * n ≤ m → 0 + size * n ≤ m
    copied_room m h =
        let same : (length (lacking k) + due) * n ≡ size * n = ap (λ x. (length x + due) * n) lacks_none ∙ ap (λ x. x * n) (zero-add due ∙ sym size_in) in
        omega arith

    pub copied_entries : (s d : List ℕ) (from : ℕ) {d' : List ℕ} → d' ≡ put d 0 (take (size * n) (drop from s)) → d' ≡ put d 0 (fronted (lacking k) due s from n)
    copied_entries s d from e =
        e ∙ ap (λ x. put d 0 (take (x * n) (drop from s))) size_in ∙ ap (put d 0) (sym (fronted_none due s from n) ∙ ap (λ x. fronted x due s from n) (sym lacks_none))

  -- after the front that they lack
  module _ (no : prefixed ≡ false) (n : ℕ) where
    lacks_front : lacking k ≡ (family_of (ipv6_in k)).front
    lacks_front = rw (sym is-prefixed ∙ no)

    pub spread_room : (m : ℕ) → (length (lacking k) + due) * n ≤ m → (4 + size) * n ≤ m
    spread_room m h =
        let four : length (lacking k) ≡ 4 = ap length lacks_front ∙ front_four (ipv6_in k) in
        let same : (length (lacking k) + due) * n ≡ (4 + size) * n = ap (λ x. (x + due) * n) four ∙ ap (λ x. (4 + x) * n) (sym size_in) in
        omega arith

    pub spread_entries : (s d : List ℕ) (from : ℕ) {word : ℕ} {d' : List ℕ} → word ≡ value (family_of six).front → d' ≡ put d 0 (fronted (be 4 word) size s from n)
        → d' ≡ put d 0 (fronted (lacking k) due s from n)
    spread_entries s d from {word} is e =
        let front : be 4 word ≡ lacking k = front_word six is ∙ ap (λ b. (family_of b).front) is-six ∙ sym lacks_front in
        e ∙ (λ i. put d 0 (fronted (front i) (size_in i) s from n))
