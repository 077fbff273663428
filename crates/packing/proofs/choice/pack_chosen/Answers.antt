-- `packing::choice::pack_chosen` meets its contract: the part is the front of the buffer that was chosen.
-- Assumes nothing.
use mathlib.Core.Path.{◌≡◌, sym, ap, ◌∙◌}
use Rattle.format.specs.Outcome.{gives}
use Rattle.format.specs.Family.{family_named}
use Rattle.format.specs.Packing.{chosen, choice}
use Rattle.packing.specs.Answers.{chosen_by}
use Rattle.packing.proofs.Choices.{part_none, part_aggregated, part_simple}
use Rattle.packing.proofs.choice.pack_chosen.Goals as goal
use Rattle.packing.proofs.choice.pack_chosen.Goals.{In-Ok}

-- what both forms came to
gave : (c : In-Ok)
    → (choice (family_named c.args.family) c.args.path c.args.e.now c.args.start c.args.limit c.args.simple.now c.args.aggregated.now).answer
    ≡ gives (chosen c.in-Ok.choice.aggregated c.in-Ok.choice.length c.in-Ok.choice.taken)
unfolding chosen_by
gave c = sym c.both.ensures.answer ∙ ap chosen_by c.in-Ok.is

pub slice_bounds-result-end-then-choice : goal.slice_bounds-result-end-then-choice
slice_bounds-result-end-then-choice c = let a = c.args in (part_aggregated (family_named a.family) a.path a.e.now a.start a.limit a.simple.now a.aggregated.now (gave (goal.at.slice_bounds-result-end-then-choice c).In-Ok) c.if-choice.true c.both.ensures.aggregated).0

pub returns-then-choice : goal.returns-then-choice
returns-then-choice c = let a = c.args in (part_aggregated (family_named a.family) a.path a.e.now a.start a.limit a.simple.now a.aggregated.now (gave (goal.at.returns-then-choice c).In-Ok) c.if-choice.true c.both.ensures.aggregated).1

pub slice_bounds-result-end-in-Ok : goal.slice_bounds-result-end-in-Ok
slice_bounds-result-end-in-Ok c = let a = c.args in (part_simple (family_named a.family) a.path a.e.now a.start a.limit a.simple.now a.aggregated.now (gave (goal.at.slice_bounds-result-end-in-Ok c).In-Ok) c.if-choice.false c.both.ensures.simple).0

pub returns-in-Err : goal.returns-in-Err
unfolding chosen_by
returns-in-Err c = let a = c.args in sym (part_none (family_named a.family) a.path a.e.now a.start a.limit a.simple.now a.aggregated.now (sym c.both.ensures.answer ∙ ap chosen_by c.in-Err.is))

pub returns-else-choice : goal.returns-else-choice
returns-else-choice c = let a = c.args in (part_simple (family_named a.family) a.path a.e.now a.start a.limit a.simple.now a.aggregated.now (gave (goal.at.returns-else-choice c).In-Ok) c.if-choice.false c.both.ensures.simple).1
