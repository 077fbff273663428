-- `reporting::file::with_octets` meets its contract: what is left from the present place on gives what all of it gives.
-- Assumes nothing.
use mathlib.Core.Path.{refl, ap, ◌∙◌}
use native.Mathlib.Omega.{arith}
use lib.ListN.{length}
use Rattle.reporting.specs.Tallies.{once_more}
use Rattle.reporting.proofs.Accepted.{accepted_one, refused_one, more_rows}
use Rattle.reporting.specs.declared.Tally.{Tally}
use Rattle.reporting.proofs.Files.{along_next, along_end}
use Rattle.reporting.proofs.file.with_octets.Goals as goal
use Rattle.reporting.proofs.file.with_octets.Goals.{in-Ok, in-Err}

pub returns-then-o-at : goal.returns-then-o-at
returns-then-o-at c =
    c.taken.ensures
    ∙ along_end _ c.args.o.now (record { accepted = c.loop-at.accepted; refused = c.loop-at.refused }) c.loop-at.at c.loop-at.invariant.1 (omega (arith, c.if-o-at.true, c.number-n.ensures, c.loop-at-test.true))

pub loop-at-preserved : goal.loop-at-preserved
loop-at-preserved c =
    let o = c.args.o.now in
    let before : Tally = record { accepted = c.loop-at.accepted; refused = c.loop-at.refused } in
    elim c.match-judged.branch [
      | in-Ok w ↦
          rw (w.accepted-is, w.refused-is) (
            c.loop-at.invariant.0,
            along_next _ o before c.loop-at.at c.loop-at.invariant.1 c.number-n.ensures refl (omega (arith, c.if-o-at.false, c.loop-at-test.true))
                (accepted_one before _ c.judged.ensures w.in-Ok.is w.with_accepted-accepted.ensures),
          )
      | in-Err w ↦
          rw (w.accepted-is, w.refused-is) (
            ap length w.count_refused.ensures ∙ more_rows _ c.loop-at.refused ∙ c.loop-at.invariant.0,
            along_next _ o before c.loop-at.at c.loop-at.invariant.1 c.number-n.ensures refl (omega (arith, c.if-o-at.false, c.loop-at-test.true))
                (refused_one before _ c.judged.ensures w.in-Err.is (w.count_refused.ensures ∙ ap (λ n. once_more n c.loop-at.refused) w.from.ensures)),
          )
    ]

pub returns : goal.returns
returns c =
    c.taken-2.ensures
    ∙ along_end _ c.args.o.now (record { accepted = c.loop-at.accepted; refused = c.loop-at.refused }) c.loop-at.at c.loop-at.invariant.1 (omega (arith, c.loop-at-test.false, c.loop-at.invariant.1.within))
