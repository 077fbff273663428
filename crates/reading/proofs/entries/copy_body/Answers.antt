-- `reading::entries::copy_body` meets its contract, kind by kind: what was counted is there, and is what is copied.
-- Assumes nothing.
use Prim.Native.Nat.{ℕ, ◌*◌}
use native.Mathlib.Omega.{arith}
use mathlib.Core.Bool.{true}
use mathlib.Core.Path.{◌≡◌, ap}
use Rattle.format.specs.declared.Kind.{Kind}
use Rattle.reading.specs.Plain.{entry_size}
use Rattle.reading.specs.Calls.{body_for}
use Rattle.format.proofs.Constants.{family}
use Rattle.reading.proofs.Delivered.{Delivers, delivers}
use Rattle.reading.proofs.entries.copy_body.Goals as goal
use Rattle.reading.proofs.entries.copy_body.Given.{Over}
use Rattle.reading.proofs.entries.copy_body.Goals.{Start}

-- what is delivered, of the kind that code has found
there : (g : Over) (s : Start g) {k : Kind} → s.args.kind ≡ k
    → let a = s.args in
    Delivers a.is_assert (family g.row.IPV6) a.m.now a.n (body_for a.is_assert (family g.row.IPV6) a.kind a.m.now 4) k
there g c e = let a = c.args in delivers a.is_assert (family g.row.IPV6) a.m.now a.n e c.requires.0

pub copy_records-requires : goal.copy_records-requires
copy_records-requires g c = ((there g (goal.at.copy_records-requires g c).Start c.in-Assert.is).there, c.requires.1)

pub copy_records-requires-in-Simple : goal.copy_records-requires-in-Simple
copy_records-requires-in-Simple g c = ((there g (goal.at.copy_records-requires-in-Simple g c).Start c.in-Simple.is).there, c.requires.1)

pub copy_aggregated-requires : goal.copy_aggregated-requires
copy_aggregated-requires g c =
    let f = family g.row.IPV6 in
    let j = there g (goal.at.copy_aggregated-requires g c).Start c.in-Aggregated.is in
    let same : entry_size c.args.is_assert f * c.args.n ≡ entry_size true f * c.args.n = ap (λ x. entry_size x f * c.args.n) j.is in
    (j.whole, omega (arith, ap (λ (x : ℕ). entry_size true f * x) j.count, same, c.requires.1))

pub copy_records-requires-in-NullRegister : goal.copy_records-requires-in-NullRegister
copy_records-requires-in-NullRegister g c = ((there g (goal.at.copy_records-requires-in-NullRegister g c).Start c.in-NullRegister.is).there, c.requires.1)

pub copy_records-requires-in-RegisterStop : goal.copy_records-requires-in-RegisterStop
copy_records-requires-in-RegisterStop g c = ((there g (goal.at.copy_records-requires-in-RegisterStop g c).Start c.in-RegisterStop.is).there, c.requires.1)

pub returns-in-Hello : goal.returns-in-Hello
returns-in-Hello g c = absurd (there g (goal.at.returns-in-Hello g c).Start c.in-Hello.is)

pub returns-in-Assert : goal.returns-in-Assert
returns-in-Assert g c = rw (there g (goal.at.returns-in-Assert g c).Start c.in-Assert.is).entries c.copy_records.ensures

pub returns-in-Simple : goal.returns-in-Simple
returns-in-Simple g c = rw (there g (goal.at.returns-in-Simple g c).Start c.in-Simple.is).entries c.copy_records-in-Simple.ensures

pub returns-in-Aggregated : goal.returns-in-Aggregated
returns-in-Aggregated g c = rw (there g (goal.at.returns-in-Aggregated g c).Start c.in-Aggregated.is).octets c.copy_aggregated.ensures

pub returns-in-NullRegister : goal.returns-in-NullRegister
returns-in-NullRegister g c = rw (there g (goal.at.returns-in-NullRegister g c).Start c.in-NullRegister.is).entries c.copy_records-in-NullRegister.ensures

pub returns-in-RegisterStop : goal.returns-in-RegisterStop
returns-in-RegisterStop g c = rw (there g (goal.at.returns-in-RegisterStop g c).Start c.in-RegisterStop.is).entries c.copy_records-in-RegisterStop.ensures
