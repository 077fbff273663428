-- `sheet::write::due` meets its contract: the tests are those of the definition, in its order.
-- Assumes nothing.
use native.Mathlib.Omega.{arith}
use mathlib.Core.Path.{◌≡◌, sym, ap, ◌∙◌}
use mathlib.Core.Bool.{true, not, ◌&&◌}
use lib.ListN.{length}
use Rattle.format.specs.Family.{family_of}
use Rattle.format.specs.Entry.{whole}
use Rattle.format.specs.Writing.{length_by}
use Rattle.neighbours.specs.Rows.{most, valid}
use Rattle.sections.specs.Layout.{layout_of, form_by, asserts_in, pairs_in}
use Rattle.sections.specs.Contents.{counts_of, sheet_octets}
use Rattle.sections.specs.Checking.{counts_allowed}
use Rattle.sheet.specs.Calls.{contents_of}
use Rattle.sheet.proofs.Asks.{storable_is, due_long, seven_not, seven_fine, due_10, due_14, due_8, due_7, due_7_pairs, due_fine, written_places}
use Rattle.sheet.proofs.write.due.Goals as goal
use Rattle.sheet.proofs.write.due.Goals.{After-are_storable, After-counts_of-c, After-places_of-n, Else-not-are_storable, Start}

full : (c : Start) → length c.args.table.rows ≡ most
full c = omega arith

both : (c : After-counts_of-c) → (whole (asserts_in (family_of c.args.ipv6)) c.args.asserts.now && whole (pairs_in (family_of c.args.ipv6)) c.args.pairs.now) ≡ true
both c = sym c.are_whole.ensures ∙ c.if-not-are_whole.false

-- what the second test asked
kept : (c : After-are_storable) → length c.args.table.rows ≡ most
    → c.are_storable.result ≡ (counts_allowed (layout_of (form_by c.args.ipv6)) (counts_of (family_of c.args.ipv6) (contents_of c.args.asserts.now c.args.pairs.now c.args.table)) && valid (family_of c.args.ipv6) c.args.table)
kept c all =
    storable_is (layout_of (form_by c.args.ipv6)) (family_of c.args.ipv6) c.args.asserts.now c.args.pairs.now c.args.table all c.counts_of-c.ensures c.are_storable.ensures

fine : (c : Else-not-are_storable) → length c.args.table.rows ≡ most
    → (counts_allowed (layout_of (form_by c.args.ipv6)) (counts_of (family_of c.args.ipv6) (contents_of c.args.asserts.now c.args.pairs.now c.args.table)) && valid (family_of c.args.ipv6) c.args.table) ≡ true
fine c all =
    sym (storable_is (layout_of (form_by c.args.ipv6)) (family_of c.args.ipv6) c.args.asserts.now c.args.pairs.now c.args.table all c.counts_of-c.ensures c.are_storable.ensures)
    ∙ c.if-not-are_storable.false

-- the length as code has it
long : (c : After-places_of-n) → length c.args.table.rows ≡ most
    → (whole (asserts_in (family_of c.args.ipv6)) c.args.asserts.now && whole (pairs_in (family_of c.args.ipv6)) c.args.pairs.now) ≡ true
    → length (sheet_octets (layout_of (form_by c.args.ipv6)) (family_of c.args.ipv6) (contents_of c.args.asserts.now c.args.pairs.now c.args.table)) ≡ c.places_of-n.result.end
long c all lists =
    due_long (layout_of (form_by c.args.ipv6)) (family_of c.args.ipv6) c.args.asserts.now c.args.pairs.now c.args.table all c.counts_of-c.ensures lists
    (sym c.are_storable.ensures ∙ c.if-not-are_storable.false) (written_places c.args.ipv6 c.counts_of-c.result c.form_for.ensures c.places_of-n.ensures)

pub returns-then-not-are_whole : goal.returns-then-not-are_whole
unfolding length_by
returns-then-not-are_whole c =
    rw c.at.ensures
    (sym (due_10 (layout_of (form_by c.args.ipv6)) (family_of c.args.ipv6) c.args.asserts.now c.args.pairs.now c.args.table c.args.room
    (sym c.are_whole.ensures ∙ c.if-not-are_whole.true)))

pub returns-then-not-are_storable : goal.returns-then-not-are_storable
unfolding length_by
returns-then-not-are_storable c =
    rw c.at-then-not-are_storable.ensures
    (sym (due_14 (layout_of (form_by c.args.ipv6)) (family_of c.args.ipv6) c.args.asserts.now c.args.pairs.now c.args.table c.args.room
    (both (goal.at.returns-then-not-are_storable c).After-counts_of-c) (sym (kept (goal.at.returns-then-not-are_storable c).After-are_storable (full (goal.at.returns-then-not-are_storable c).Start)) ∙ c.if-not-are_storable.true)))

pub returns-then-room-n : goal.returns-then-room-n
unfolding length_by
returns-then-room-n c =
    let all = full (goal.at.returns-then-room-n c).Start in
    let lists = both (goal.at.returns-then-room-n c).After-counts_of-c in
    rw c.at-then-room-n.ensures
    (sym (due_8 (layout_of (form_by c.args.ipv6)) (family_of c.args.ipv6) c.args.asserts.now c.args.pairs.now c.args.table c.args.room
    lists (fine (goal.at.returns-then-room-n c).Else-not-are_storable all) (long (goal.at.returns-then-room-n c).After-places_of-n all lists) c.if-room-n.true))

pub returns-then-not-all_allowed : goal.returns-then-not-all_allowed
unfolding length_by
returns-then-not-all_allowed c =
    let all = full (goal.at.returns-then-not-all_allowed c).Start in
    let lists = both (goal.at.returns-then-not-all_allowed c).After-counts_of-c in
    rw c.at-then-not-all_allowed.ensures
    (sym (due_7 (layout_of (form_by c.args.ipv6)) (family_of c.args.ipv6) c.args.asserts.now c.args.pairs.now c.args.table c.args.room
    lists (fine (goal.at.returns-then-not-all_allowed c).Else-not-are_storable all) (long (goal.at.returns-then-not-all_allowed c).After-places_of-n all lists) c.if-room-n.false (seven_not c.all_allowed.result c.all_allowed.ensures (ap not c.if-not-all_allowed.true))))

pub returns-then-not-all_allowed-2 : goal.returns-then-not-all_allowed-2
unfolding length_by
returns-then-not-all_allowed-2 c =
    let all = full (goal.at.returns-then-not-all_allowed-2 c).Start in
    let lists = both (goal.at.returns-then-not-all_allowed-2 c).After-counts_of-c in
    rw c.at-then-not-all_allowed-2.ensures
    (sym (due_7_pairs (layout_of (form_by c.args.ipv6)) (family_of c.args.ipv6) c.args.asserts.now c.args.pairs.now c.args.table c.args.room
    lists (fine (goal.at.returns-then-not-all_allowed-2 c).Else-not-are_storable all) (long (goal.at.returns-then-not-all_allowed-2 c).After-places_of-n all lists) c.if-room-n.false
    (seven_fine c.all_allowed.result c.all_allowed.ensures (ap not c.if-not-all_allowed.false)) (seven_not c.all_allowed-2.result c.all_allowed-2.ensures (ap not c.if-not-all_allowed-2.true))))

pub returns : goal.returns
unfolding length_by
returns c =
    let all = full (goal.at.returns c).Start in
    let lists = both (goal.at.returns c).After-counts_of-c in
    sym (due_fine (layout_of (form_by c.args.ipv6)) (family_of c.args.ipv6) c.args.asserts.now c.args.pairs.now c.args.table c.args.room
    lists (fine (goal.at.returns c).Else-not-are_storable all) (long (goal.at.returns c).After-places_of-n all lists) c.if-room-n.false
    (seven_fine c.all_allowed.result c.all_allowed.ensures (ap not c.if-not-all_allowed.false)) (seven_fine c.all_allowed-2.result c.all_allowed-2.ensures (ap not c.if-not-all_allowed-2.false)))
