-- `packing::limit::asked` meets its contract: the tests are those of the definition, in its order.
-- Assumes nothing.
use Rattle.format.proofs.Refusals.{handed_up}
use mathlib.Core.Path.{◌≡◌, sym}
use Rattle.format.specs.Outcome.{gives}
use Rattle.format.specs.Packing.{read_limit}
use Rattle.entries.specs.Kinds.{entries_for}
use Rattle.packing.specs.Answers.{limit_of}
use Rattle.packing.proofs.Asks.{read_gives, read_refuses, ask_limit, ask_room, ask_part, ask_start, ask_bad, ask_fine}
use Rattle.packing.proofs.limit.asked.Goals as goal
use Rattle.packing.proofs.limit.asked.Goals.{In_ok-l}

-- what reading the limit gave
read : (c : In_ok-l) → read_limit (entries_for c.args.ipv6 c.args.kind).family c.args.limit ≡ gives c.in_ok-l.l
read c = read_gives c.args.ipv6 c.args.kind c.args.limit c.in_ok-l.was c.read_limit.ensures

pub returns-in_err-l : goal.returns-in_err-l
unfolding limit_of
returns-in_err-l c =
    let a = c.args in
    rw (handed_up c.from_residual.result c.from_residual.ensures.1)
    (sym (ask_limit (entries_for a.ipv6 a.kind) a.e.now a.start a.limit a.room _ _ (read_refuses a.ipv6 a.kind a.limit c.in_err-l.was c.read_limit.ensures)))

pub returns-then-room-l : goal.returns-then-room-l
unfolding limit_of
returns-then-room-l c =
    let a = c.args in
    let E = entries_for a.ipv6 a.kind in
    let o = a.e.now in
    rw c.at.ensures (sym (ask_room E o a.start a.limit a.room _ (read (goal.at.returns-then-room-l c).In_ok-l) c.if-room-l.true))

pub returns-then-e-size-ne0 : goal.returns-then-e-size-ne0
unfolding limit_of
returns-then-e-size-ne0 c =
    let a = c.args in
    let E = entries_for a.ipv6 a.kind in
    let o = a.e.now in
    rw c.at-then-e-size-ne0.ensures
    (sym (ask_part E o a.start a.limit a.room _ (read (goal.at.returns-then-e-size-ne0 c).In_ok-l) c.if-room-l.false (rw c.entry_size-size.ensures at c.if-e-size-ne0.true)))

pub returns-then-count-start : goal.returns-then-count-start
unfolding limit_of
returns-then-count-start c =
    let a = c.args in
    let E = entries_for a.ipv6 a.kind in
    let o = a.e.now in
    let size = c.entry_size-size.ensures in
    rw c.at-then-count-start.ensures
    (sym (ask_start E o a.start a.limit a.room _ (read (goal.at.returns-then-count-start c).In_ok-l) c.if-room-l.false (rw size at c.if-e-size-ne0.false) (rw size at c.if-count-start.true)))

pub returns-in-None : goal.returns-in-None
unfolding limit_of
returns-in-None c =
    let a = c.args in
    let size = c.entry_size-size.ensures in
    sym (ask_fine (entries_for a.ipv6 a.kind) a.e.now a.start a.limit a.room _ (read (goal.at.returns-in-None c).In_ok-l) c.if-room-l.false (rw size at c.if-e-size-ne0.false) (rw size at c.if-count-start.false) c.first_bad.ensures c.in-None.is)

pub returns-in-Some : goal.returns-in-Some
unfolding limit_of
returns-in-Some c =
    let a = c.args in
    let size = c.entry_size-size.ensures in
    rw c.at-in-Some.ensures
    (sym (ask_bad (entries_for a.ipv6 a.kind) a.e.now a.start a.limit a.room _ (read (goal.at.returns-in-Some c).In_ok-l) c.if-room-l.false (rw size at c.if-e-size-ne0.false) (rw size at c.if-count-start.false) c.first_bad.ensures c.in-Some.is))
