-- What a packing call does, from its definition.
--     Asked, asked_gives, gives_asked     the four refusals do not apply, exactly if the call goes on
--     asked_short                         a buffer below the limit is refused with 8
--     limit_range, limit_itself           a limit that is read lies within the limits, and one that does is read as itself
--     packing_read                        a call knows its limit only as read
--     none_bad, all_allowed               no entry is bad, exactly if every one is allowed
--     list_fine, list_allowed             and so of a whole list
--     canonical_long                      how long a message is
--     taken_most, taken_fits              the most that fit
--     pack_none, pack_some                no message, and one
--     packing_gives, packing_short        the whole call, and one refused with 8
--     WroteBy, wrote_by                  a call that is not refused: what it took and what it wrote
-- Assumes nothing.
use Prim.Native.Nat.{ℕ, zero, suc, ◌+◌, ◌-◌, ◌*◌, ◌<◌, ◌≤◌}
use native.Mathlib.Nat.{mul-zero}
use native.Mathlib.Omega.{arith}
use mathlib.Core.Path.{◌≡◌, refl, sym, ap, ◌∙◌}
use mathlib.Core.Bool.{Bool, true, false, not, ◌&&◌, and-eq-true_iff}
use mathlib.Core.List.{List, []}
use borrow.Author.Tests.{lt-ltb, le-ltb, le-leb, ltb-false, not-false, leb-true, ne_eqb}
use lib.ListN.{length, take, drop}
use lib.Dec.{eqb, leb, ltb}
use Rattle.octets.specs.Octets.{put}
use Rattle.octets.proofs.Laws.{take_put, drop_put}
use Rattle.records.proofs.Most.{most_le, most_fits}
use Rattle.format.specs.Outcome
use Rattle.format.specs.Outcome.{Outcome, gives, refuses, refuse_if}
use Rattle.format.specs.Family.{Family}
use Rattle.format.specs.Header.{longest}
use Rattle.format.specs.Entry.{Entries, AllAllowed, count, whole, entries_of}
use Rattle.format.specs.declared.Path.{Path}
use Rattle.format.proofs.Messages.{length_message}
use Rattle.format.proofs.Outcomes.{no_refusal, gives_same, bind_gives, then_gives, unless_gives}
use Rattle.format.specs.Packing.{usual_limit, least_limit, read_limit, Form, size_of, canonical, first_bad_at, first_bad, Due, due, asked, taken, packed, octets_of, took_of, pack, wrote, written, pack_due, packing}

-- ---- entries that are all allowed

module _ (E : Entries) (o : List ℕ) where
  pub all_allowed : (n i at : ℕ) → first_bad_at E o i at n ≡ gives tt → AllAllowed E o at n
  unfolding first_bad_at AllAllowed
  all_allowed zero i at h = tt
  all_allowed (suc n) i at h = go (E.allowed_at o at) refl (all_allowed n (suc i) (at + E.size))
    where
      go : (b : Bool) → E.allowed_at o at ≡ b → (first_bad_at E o (suc i) (at + E.size) n ≡ gives tt → AllAllowed E o (at + E.size) n)
          → (E.allowed_at o at ≡ true) × AllAllowed E o (at + E.size) n
      go true t rest = (t, rest (rw t at h))
      go false t rest = absurd (no_refusal (rw t at h))

  pub none_bad : (n i at : ℕ) → AllAllowed E o at n → first_bad_at E o i at n ≡ gives tt
  unfolding first_bad_at AllAllowed
  none_bad zero i at h = refl
  none_bad (suc n) i at h = rw h.0 (none_bad n (suc i) (at + E.size) h.1)

  -- of a whole list
  first_none : count E o - 0 ≡ count E o
  first_none = omega arith

  pub list_allowed : first_bad E o 0 ≡ gives tt → AllAllowed E o 0 (count E o)
  unfolding first_bad
  list_allowed h = rw (mul-zero E.size, first_none) at (all_allowed (count E o - 0) 0 (E.size * 0) h)

  pub list_fine : AllAllowed E o 0 (count E o) → first_bad E o 0 ≡ gives tt
  unfolding first_bad
  list_fine h = rw (mul-zero E.size, first_none) (none_bad (count E o) 0 0 h)

-- ---- what a call asks

pub record Asked (E : Entries) (o : List ℕ) (start limit room l : ℕ) : Type 0 where
  pub limit_read : read_limit E.family limit ≡ gives l
  pub enough : l ≤ room
  pub whole_list : whole E o ≡ true
  pub inside : start ≤ count E o
  pub allowed : AllAllowed E o (E.size * start) (count E o - start)

module _ (E : Entries) (o : List ℕ) (start limit room l : ℕ) where
  pub asked_gives : Asked E o start limit room l → asked E o start limit room ≡ gives (due l (drop start (entries_of E o)))
  unfolding asked first_bad Outcome.◌>>=◌ Outcome.◌>>◌ refuse_if
  asked_gives h =
      rw (h.limit_read, le-ltb room l h.enough, h.whole_list, le-leb start (count E o) h.inside, none_bad E o (count E o - start) start (E.size * start) h.allowed)

  pub asked_short : read_limit E.family limit ≡ gives l → room < l → asked E o start limit room ≡ refuses 8 0
  unfolding asked Outcome.◌>>=◌ Outcome.◌>>◌ refuse_if
  asked_short e short = rw (e, lt-ltb room l short)

  pub gives_asked : (es : List E.Entry) → asked E o start limit room ≡ gives (due l es) → Asked E o start limit room l × (es ≡ drop start (entries_of E o))
  unfolding asked first_bad
  gives_asked es e =
      bind_gives (read_limit E.family limit) _ _ e (λ m read rest.
      unless_gives (ltb room m) 8 0 _ _ rest (λ short rest₁.
      unless_gives (not (whole E o && leb start (count E o))) 10 0 _ _ rest₁ (λ listed rest₂.
      then_gives (first_bad E o start) _ _ rest₂ (λ x fine rest₃.
      let same : m ≡ l = cc in
      let list = (and-eq-true_iff (whole E o) (leb start (count E o))).0 (not-false _ listed) in (
        record {
          limit_read = rw same at read;
          enough = rw same at (ltb-false room m short);
          whole_list = list.0;
          inside = leb-true start (count E o) list.1;
          allowed = all_allowed E o _ start (E.size * start) fine;
        },
        cc,
      )))))

-- ---- limits

-- "Limits run from 38 to 65,515", and the usual one lies between
pub limit_range : (f : Family) (limit l : ℕ) → read_limit f limit ≡ gives l → (least_limit f ≤ usual_limit → least_limit f ≤ l) × (l ≤ longest)
unfolding read_limit usual_limit
limit_range f limit l e = go (eqb limit 0) refl (leb (least_limit f) limit) refl (leb limit longest) refl
  where
    go : (z : Bool) → eqb limit 0 ≡ z → (a : Bool) → leb (least_limit f) limit ≡ a → (b : Bool) → leb limit longest ≡ b → (least_limit f ≤ usual_limit → least_limit f ≤ l) × (l ≤ longest)
    go true z a ea b eb =
        let same : usual_limit ≡ l = gives_same (rw z at e) in
        (λ usual. omega arith, omega arith)
    go false z true ea true eb =
        let same : limit ≡ l = gives_same (rw (z, ea, eb) at e) in
        let low : least_limit f ≤ limit = leb-true (least_limit f) limit ea in
        let high : limit ≤ longest = leb-true limit longest eb in
        (λ usual. omega arith, omega arith)
    go false z false ea b eb = absurd (no_refusal (rw (z, ea) at e))
    go false z true ea false eb = absurd (no_refusal (rw (z, ea, eb) at e))

pub limit_itself : (f : Family) (l : ℕ) → least_limit f ≤ l → l ≤ longest → read_limit f l ≡ gives l
unfolding read_limit least_limit
limit_itself f l least greatest = rw (ne_eqb l 0 (λ z. omega arith), le-leb _ l least, le-leb l longest greatest)

pub packing_read : {E : Entries} (F : Form E) (p : Path) (o : List ℕ) (start limit limit' : ℕ) (d : List ℕ) → read_limit E.family limit ≡ read_limit E.family limit'
    → packing F p o start limit d ≡ packing F p o start limit' d
unfolding packing asked
packing_read F p o start limit limit' d e = rw e refl

-- ---- the message of a call

-- a message is as long as its size says, whatever the addresses
pub canonical_long : {E : Entries} (F : Form E) (p : Path) (es : List E.Entry) → length (canonical F p es) ≡ size_of F es
unfolding canonical size_of
canonical_long {E} F p es = length_message E.family p F.kind (F.body es)

module _ {E : Entries} (F : Form E) (l : ℕ) (es : List E.Entry) where
  pub taken_most : taken F l es ≤ F.at_most (length es)
  unfolding taken
  taken_most = most_le _ (F.at_most (length es))

  pub taken_fits : 0 < taken F l es → size_of F (take (taken F l es) es) ≤ l
  unfolding taken
  taken_fits some = leb-true _ l (most_fits (λ (n : ℕ). leb (size_of F (take n es)) l) (F.at_most (length es)) some)

module _ {E : Entries} (F : Form E) (p : Path) (l : ℕ) (es : List E.Entry) where
  pub pack_none : taken F l es ≡ 0 → pack F p l es ≡ packed [] 0
  unfolding pack
  pack_none e = rw e

  pub pack_some : 0 < taken F l es → pack F p l es ≡ packed (canonical F p (take (taken F l es) es)) (taken F l es)
  unfolding pack
  pack_some some = rw (ne_eqb (taken F l es) 0 (λ z. omega arith))

-- a call that is not refused
pub packing_gives : {E : Entries} (F : Form E) (p : Path) (o : List ℕ) (start limit l : ℕ) (d m : List ℕ) (n : ℕ) → Asked E o start limit (length d) l
    → pack F p l (drop start (entries_of E o)) ≡ packed m n
    → packing F p o start limit d ≡ record { answer = gives (wrote (length m) n); buffer = put d 0 m }
unfolding packing pack_due written octets_of took_of Outcome.◌>>=◌
packing_gives {E} F p o start limit l d m n h e = rw (asked_gives E o start limit (length d) l h, e)

-- a call whose buffer is below the limit
pub packing_short : {E : Entries} (F : Form E) (p : Path) (o : List ℕ) (start limit l : ℕ) (d : List ℕ) → read_limit E.family limit ≡ gives l → length d < l
    → packing F p o start limit d ≡ record { answer = refuses 8 0; buffer = d }
unfolding packing written Outcome.◌>>=◌
packing_short {E} F p o start limit l d e short = rw (asked_short E o start limit (length d) l e short)

-- and what is known of any call that gives a message
pub record WroteBy {E : Entries} (F : Form E) (p : Path) (o : List ℕ) (start limit : ℕ) (d : List ℕ) (n k : ℕ) : Type 0 where
  pub limit_read : ℕ
  pub was : Asked E o start limit (length d) limit_read
  pub is_message : take n (packing F p o start limit d).buffer ≡ canonical F p (take k (drop start (entries_of E o)))
  pub past : drop n (packing F p o start limit d).buffer ≡ drop n d
  pub most : k ≤ F.at_most (length (drop start (entries_of E o)))
  pub within : size_of F (take k (drop start (entries_of E o))) ≤ limit_read

not_asked : {E : Entries} (F : Form E) (p : Path) (o : List ℕ) (start limit : ℕ) (d : List ℕ) (n q : ℕ) → asked E o start limit (length d) ≡ refuses n q
    → (packing F p o start limit d).answer ≡ refuses n q
unfolding packing written Outcome.◌>>=◌
not_asked F p o start limit d n q e = rw e

module _ {E : Entries} (F : Form E) (p : Path) (o : List ℕ) (start limit : ℕ) (d : List ℕ) (n k : ℕ) (some : 0 < k) (e : (packing F p o start limit d).answer ≡ gives (wrote n k)) where
  left : List E.Entry
  left = drop start (entries_of E o)

  -- a call that took some entries took as many as its definition says
  took_some : (l : ℕ) → Asked E o start limit (length d) l → (t : ℕ) → taken F l left ≡ t → WroteBy F p o start limit d n k
  unfolding left
  took_some l h zero none =
      let call : packing F p o start limit d ≡ _ = packing_gives F p o start limit l d [] 0 h (pack_none F p l left none) in
      let answer : wrote 0 0 ≡ wrote n k = gives_same (sym (ap (λ c. c.answer) call) ∙ e) in
      let zero : 0 ≡ k = cc in
      absurd (omega arith)
  took_some l h (suc t) more =
      let m : List ℕ = canonical F p (take (taken F l left) left) in
      let pos : 0 < taken F l left = omega arith in
      let call : packing F p o start limit d ≡ _ = packing_gives F p o start limit l d m (taken F l left) h (pack_some F p l left pos) in
      let answer : wrote (length m) (taken F l left) ≡ wrote n k = gives_same (sym (ap (λ c. c.answer) call) ∙ e) in
      let long : length m ≡ n = cc in
      let count : taken F l left ≡ k = cc in
      record {
        limit_read = l;
        was = h;
        is_message = ap (take n) (ap (λ c. c.buffer) call) ∙ ap (λ j. take j (put d 0 m)) (sym long) ∙ take_put d m ∙ ap (λ j. canonical F p (take j left)) count;
        past = ap (drop n) (ap (λ c. c.buffer) call) ∙ ap (λ j. drop j (put d 0 m)) (sym long) ∙ drop_put d m ∙ ap (λ j. drop j d) long;
        most = rw count at (taken_most F l left);
        within = rw count at (taken_fits F l left pos);
      }

  was_asked : (x : Outcome (Due E.Entry)) → asked E o start limit (length d) ≡ x → WroteBy F p o start limit d n k
  was_asked (gives (due l es)) q = took_some l (gives_asked E o start limit (length d) l es q).0 (taken F l left) refl
  was_asked (refuses a b) q = absurd (no_refusal (sym (not_asked F p o start limit d a b q) ∙ e))

  pub wrote_by : WroteBy F p o start limit d n k
  wrote_by = was_asked (asked E o start limit (length d)) refl
