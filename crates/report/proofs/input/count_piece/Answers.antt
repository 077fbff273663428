-- `report::input::count_piece` meets its contract.
-- Assumes nothing.
use mathlib.Core.Path.{ap}
use native.Mathlib.Omega.{arith}
use Rattle.reporting.specs.declared.Taken.{Taken}
use Rattle.report.proofs.Moved.{Left, left_of, moved_front}
use borrow.Author.Rules.{rules}
use Rattle.report.proofs.input.count_piece.Goals as goal
use Rattle.report.proofs.input.count_piece.Goals.{After-with_octets-all}

left : (c : After-with_octets-all) → Left c.args.buf.now c.args.n c.with_octets-all.result.used
left c =
    let a = c.args in
    left_of a.buf.now a.n a.t (λ i. search rules) c.requires c.with_octets-all.ensures

pub overflow_sub-left : goal.overflow_sub-left
overflow_sub-left c = (left (goal.at.overflow_sub-left c).After-with_octets-all).within

pub copy_within-requires-clause-start_le_end : goal.copy_within-requires-clause-start_le_end
copy_within-requires-clause-start_le_end c = omega (arith, (left (goal.at.copy_within-requires-clause-start_le_end c).After-with_octets-all).within)

pub returns : goal.returns
returns c =
    let l = left (goal.at.returns c).After-with_octets-all in
    record {
      tally = ap (λ (x : Taken). x.tally) c.with_octets-all.ensures;
      left = moved_front c.args.buf.now c.args.n c.with_octets-all.result.used c.requires l c.copy_within.ensures.after;
      few = (omega arith, l.few);
      long = c.copy_within.ensures.len;
    }
