-- `attributes::read::read_attribute` meets its contract: cut in its octet or its length, F or another type, a length under 6, or as what follows comes to.
-- Assumes nothing.
use mathlib.Core.Path.{◌≡◌}
use mathlib.Core.Bool.{false}
use borrow.Author.Tests.{le-ltb, lt-ltb}
use Rattle.format.specs.Reader.{here, continue, ◌>>=◌, ◌>>◌, refuse}
use Rattle.attributes.specs.Options.{has_bit}
use Rattle.attributes.specs.Attribute.{is_pop_count, has_e, attribute}
use Rattle.attributes.specs.Answers.{fields_after}
use Rattle.attributes.proofs.Readings.{has_f, other_type, pop_count}
use Rattle.attributes.proofs.read.read_attribute.Goals as goal
use Rattle.attributes.proofs.read.read_attribute.Goals.{then-octet-ne0-via-then-octet-ne0, then-octet-ne0-via-else-octet-ne0+then-octet-ne3}

pub returns-in_default : goal.returns-in_default
unfolding attribute here continue ◌>>=◌
returns-in_default c = rw (c.at.ensures, ← c.in_default.ensures)

pub returns-then-octet-ne0 : goal.returns-then-octet-ne0
unfolding attribute here continue ◌>>=◌ ◌>>◌ refuse
returns-then-octet-ne0 c =
    let t = c.in-Some.octet in
    let other : is_pop_count t ≡ false = elim c.then-octet-ne0.branch [ then-octet-ne0-via-then-octet-ne0 w ↦ has_f t w.if-octet-ne0.true | then-octet-ne0-via-else-octet-ne0+then-octet-ne3 w ↦ other_type t w.if-octet-ne0.false w.if-octet-ne3.true ] in
    rw (c.at-then-octet-ne0.ensures, ← c.in-Some.ensures, other)

pub returns-in_default-read : goal.returns-in_default-read
unfolding attribute here continue ◌>>=◌ ◌>>◌ refuse
returns-in_default-read c =
    rw (c.at-in_default-read.ensures, ← c.in-Some.ensures, pop_count _ c.if-octet-ne0.false c.if-octet-ne3.false, ← c.in_default-read.ensures)

pub returns-then-len-lt6 : goal.returns-then-len-lt6
unfolding attribute here continue ◌>>=◌ ◌>>◌ refuse
returns-then-len-lt6 c =
    rw (c.at-then-len-lt6.ensures, ← c.in-Some.ensures, pop_count _ c.if-octet-ne0.false c.if-octet-ne3.false, ← c.in-Some-read.ensures, lt-ltb _ _ c.if-len-lt6.true)

pub returns : goal.returns
unfolding attribute here continue ◌>>=◌ ◌>>◌ refuse fields_after has_e has_bit
returns c =
    rw (c.fields_after.ensures, ← c.in-Some.ensures, pop_count _ c.if-octet-ne0.false c.if-octet-ne3.false, ← c.in-Some-read.ensures, le-ltb _ _ c.if-len-lt6.false)
