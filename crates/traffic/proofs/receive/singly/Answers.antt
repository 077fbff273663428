-- A record that was read ends past its place, so what is left of the body gets less.
use Prim.Native.Nat.{ℕ, ◌<◌}
use mathlib.Core.Path.{◌≡◌, sym}
use mathlib.Core.List.{List}
use native.Mathlib.Omega.{arith}
use Rattle.format.specs.Family.{ipv4}
use Rattle.format.specs.Record.{record_at}
use Rattle.format.specs.declared.Kind.{Kind}
use Rattle.format.specs.declared.Kind.TheVariants.{Hello, Assert, Simple, Aggregated, NullRegister, RegisterStop}
use Rattle.fields.specs.Answers.{single, plain_size}
use Rattle.fields.specs.declared.record.Single.{Single}
use Rattle.fields.proofs.Plain.{record_back}
use Rattle.traffic.proofs.receive.singly.Goals as goal
use Rattle.std.specs.Prelude.{Ok}

size_some : (k : Kind) → 0 < plain_size ipv4 k
unfolding plain_size
size_some Hello = omega arith
size_some Assert = omega arith
size_some Simple = omega arith
size_some Aggregated = omega arith
size_some NullRegister = omega arith
size_some RegisterStop = omega arith

further : (kind : Kind) (o : List ℕ) (at : ℕ) (s : Single) → single (Ok s) ≡ record_at ipv4 kind o at → at < s.next
unfolding single
further kind o at s p =
    let back = record_back ipv4 kind o at (sym p) in
    let size = size_some kind in
    omega arith

pub loop-at-smaller : goal.loop-at-smaller
loop-at-smaller g c =
    let past = further c.args.kind c.args.body.now c.loop-at.at c.in_ok-single.single c.in_ok-single.ensures in
    omega (arith, past, c.loop-at-test.true)

pub loop-at-preserved : goal.loop-at-preserved
loop-at-preserved g c =
    let past = further c.args.kind c.args.body.now c.loop-at.at c.in_ok-single.single c.in_ok-single.ensures in
    omega (arith, past, c.loop-at.invariant)
