-- Every row of the table of marked examples holds of the definitions.
--     least_of, allowed_read     01's and E7's limits are those that calls read
--     comes_to_nothing          calls for the empty list, at every allowed limit and with any buffers
--     marked_right              01's starred examples, and E7's figures
-- Assumes nothing.
use Prim.Native.Nat.{ℕ, ◌≤◌, ◌<◌}
use native.Mathlib.Omega.{arith}
use native.Mathlib.Decide.{dec_le}
use mathlib.Core.Bool.{Bool, true, false}
use mathlib.Core.Path.{◌≡◌, refl, ap, ◌∙◌}
use mathlib.Core.List.{List, [], ◌∷◌}
use borrow.Author.Tests.{le-leb, ne_eqb}
use lib.ListN.{length}
use Rattle.octets.proofs.Laws.{put_nil}
use Rattle.records.specs.Every.{Every}
use Rattle.records.specs.Most.{most}
use Rattle.format.specs.Outcome.{gives, refuses}
use Rattle.format.specs.Family.{ipv4, ipv6, family_of}
use Rattle.format.specs.Entry.{Entries, count, whole, entries_of, entries_at, AllAllowed}
use Rattle.format.specs.Packing.{Form, plain, simple, aggregated, null_register, register_stop, usual_limit, least_limit, read_limit, pack, taken, wrote, packing}
use Rattle.format.specs.Train.{Lent, taken_by, message_of, calls, messages_of}
use Rattle.format.specs.declared.Path.{Path}
use Rattle.format.proofs.Calls.{packing_gives, packing_short}
use Rattle.cases.specs.Computed.{computed}
use Rattle.cases.specs.Marked.{Allowed, usual, told, Nothing, Right, marked, flows, shared, flows6, shared6, ranked, unranked}

abbrev least_of : Bool → ℕ
least_of false = 38
least_of true = 62

allowed_read : (is_ipv6 : Bool) (limit l : ℕ) → Allowed (least_of is_ipv6) limit l → read_limit (family_of is_ipv6) limit ≡ gives l
unfolding read_limit usual_limit least_limit
allowed_read is_ipv6 limit l usual = refl
allowed_read false limit l (told least greatest) = rw (ne_eqb limit 0 (λ z. omega arith), le-leb 38 limit least, le-leb limit 65515 greatest)
allowed_read true limit l (told least greatest) = rw (ne_eqb limit 0 (λ z. omega arith), le-leb 62 limit least, le-leb limit 65515 greatest)

-- of a kind of which a message of no entries takes none
module _ {E : Entries} (F : Form E) (is_whole : whole E [] ≡ true) (noEntries : count E [] ≡ 0) (none : F.at_most 0 ≡ 0)
    (limit l : ℕ) (read : read_limit E.family limit ≡ gives l) where
  enough : (p : Path) (d : List ℕ) → l ≤ length d → packing F p [] 0 limit d ≡ record { answer = gives (wrote 0 0); buffer = d }
  unfolding entries_of entries_at AllAllowed pack taken most
  enough p d room =
      packing_gives F p [] 0 limit l d [] 0
      (record { limit_read = read; enough = room; whole_list = is_whole; inside = omega arith; allowed = rw noEntries tt })
      (rw (noEntries, none))
      ∙ ap (λ (b : List ℕ). record { answer = gives (wrote 0 0); buffer = b }) (put_nil d 0)

  less : (p : Path) (d : List ℕ) → length d < l → packing F p [] 0 limit d ≡ record { answer = refuses 8 0; buffer = d }
  less p d short = packing_short F p [] 0 limit l d read short

  no_message_lem : (buffers : List Lent) → messages_of (calls F [] limit 0 buffers) ≡ []
  unfolding messages_of message_of taken_by calls
  no_message_lem [] = refl
  no_message_lem (d ∷ ds) = go (dec_le l (length d.buffer)) (no_message_lem ds)
    where
      go : Dec (l ≤ length d.buffer) → messages_of (calls F [] limit 0 ds) ≡ [] → messages_of (calls F [] limit 0 (d ∷ ds)) ≡ []
      go (yes room) rest = rw (enough d.path d.buffer room) rest
      go (no short) rest = rw (less d.path d.buffer (omega arith)) rest

comes_to_nothing : {E : Entries} (F : Form E) {least : ℕ} → whole E [] ≡ true → count E [] ≡ 0 → F.at_most 0 ≡ 0
    → ((limit l : ℕ) → Allowed least limit l → read_limit E.family limit ≡ gives l) → (limit l : ℕ) → Allowed least limit l → Nothing F limit l
comes_to_nothing F is_whole noEntries none reads limit l a =
    let read = reads limit l a in
    record {
      enough = enough F is_whole noEntries none limit l read;
      less = less F is_whole noEntries none limit l read;
      no_message = no_message_lem F is_whole noEntries none limit l read;
    }

pub marked_right : Every Right marked
unfolding computed Every Right marked flows shared flows6 shared6 ranked unranked
marked_right =
    let p = comes_to_nothing (plain ipv4) refl refl refl (allowed_read false) in
    let s = comes_to_nothing (simple ipv4) refl refl refl (allowed_read false) in
    let a = comes_to_nothing (aggregated ipv4) refl refl refl (allowed_read false) in
    let n = comes_to_nothing (null_register ipv4) refl refl refl (allowed_read false) in
    let r = comes_to_nothing (register_stop ipv4) refl refl refl (allowed_read false) in
    let p6 = comes_to_nothing (plain ipv6) refl refl refl (allowed_read true) in
    let s6 = comes_to_nothing (simple ipv6) refl refl refl (allowed_read true) in
    let a6 = comes_to_nothing (aggregated ipv6) refl refl refl (allowed_read true) in
    let n6 = comes_to_nothing (null_register ipv6) refl refl refl (allowed_read true) in
    let r6 = comes_to_nothing (register_stop ipv6) refl refl refl (allowed_read true) in
    (refl, (refl, (refl, (refl, (refl, (refl, (refl, (refl, (refl, (refl, (refl, (refl, (refl, (refl, (refl, (refl, (refl, (refl, (p, (s, (a, (n, (r, (refl, (refl, (refl, (refl, (refl, (refl, (refl, (refl, (refl, (refl, (refl, (refl, (refl, (refl, (refl, (refl, (refl, (refl, (refl, (refl, (refl, (p6, (s6, (a6, (n6, (r6, tt)))))))))))))))))))))))))))))))))))))))))))))))))
