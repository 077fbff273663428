-- `attributes::options::read_values` meets its contract: the options read one after another, up to the one that is cut.
-- Assumes nothing.
use Rattle.format.specs.Reader.{continue, ◌>>=◌, give}
use Rattle.format.proofs.Refusals.{handed_up}
use Rattle.attributes.specs.Answers.{option_at}
use Rattle.attributes.specs.Attribute.{values, optional}
use Rattle.attributes.specs.Options.{present, size_of, bit_of}
use Rattle.attributes.proofs.options.read_values.Goals as goal

pub returns-in_err-transit : goal.returns-in_err-transit
unfolding values optional present size_of bit_of option_at continue ◌>>=◌ give
returns-in_err-transit c =
    rw (handed_up c.from_residual.result c.from_residual.ensures.1, ← c.in_err-transit.ensures)

pub returns-in_err-stub : goal.returns-in_err-stub
unfolding values optional present size_of bit_of option_at continue ◌>>=◌ give
returns-in_err-stub c =
    rw (handed_up c.from_residual-in_err-stub.result c.from_residual-in_err-stub.ensures.1, ← c.in_ok-transit.ensures, ← c.in_err-stub.ensures)

pub returns-in_err-minimum_speed : goal.returns-in_err-minimum_speed
unfolding values optional present size_of bit_of option_at continue ◌>>=◌ give
returns-in_err-minimum_speed c =
    rw (handed_up c.from_residual-in_err-minimum_speed.result c.from_residual-in_err-minimum_speed.ensures.1, ← c.in_ok-transit.ensures, ← c.in_ok-stub.ensures, ← c.in_err-minimum_speed.ensures)

pub returns-in_err-maximum_speed : goal.returns-in_err-maximum_speed
unfolding values optional present size_of bit_of option_at continue ◌>>=◌ give
returns-in_err-maximum_speed c =
    rw (handed_up c.from_residual-in_err-maximum_speed.result c.from_residual-in_err-maximum_speed.ensures.1, ← c.in_ok-transit.ensures, ← c.in_ok-stub.ensures, ← c.in_ok-minimum_speed.ensures, ← c.in_err-maximum_speed.ensures)

pub returns-in_err-domain : goal.returns-in_err-domain
unfolding values optional present size_of bit_of option_at continue ◌>>=◌ give
returns-in_err-domain c =
    rw (handed_up c.from_residual-in_err-domain.result c.from_residual-in_err-domain.ensures.1, ← c.in_ok-transit.ensures, ← c.in_ok-stub.ensures, ← c.in_ok-minimum_speed.ensures, ← c.in_ok-maximum_speed.ensures, ← c.in_err-domain.ensures)

pub returns-in_err-node : goal.returns-in_err-node
unfolding values optional present size_of bit_of option_at continue ◌>>=◌ give
returns-in_err-node c =
    rw (handed_up c.from_residual-in_err-node.result c.from_residual-in_err-node.ensures.1, ← c.in_ok-transit.ensures, ← c.in_ok-stub.ensures, ← c.in_ok-minimum_speed.ensures, ← c.in_ok-maximum_speed.ensures, ← c.in_ok-domain.ensures, ← c.in_err-node.ensures)

pub returns-in_err-diameter : goal.returns-in_err-diameter
unfolding values optional present size_of bit_of option_at continue ◌>>=◌ give
returns-in_err-diameter c =
    rw (handed_up c.from_residual-in_err-diameter.result c.from_residual-in_err-diameter.ensures.1, ← c.in_ok-transit.ensures, ← c.in_ok-stub.ensures, ← c.in_ok-minimum_speed.ensures, ← c.in_ok-maximum_speed.ensures, ← c.in_ok-domain.ensures, ← c.in_ok-node.ensures, ← c.in_err-diameter.ensures)

pub returns-in_err-time_zone : goal.returns-in_err-time_zone
unfolding values optional present size_of bit_of option_at continue ◌>>=◌ give
returns-in_err-time_zone c =
    rw (handed_up c.from_residual-in_err-time_zone.result c.from_residual-in_err-time_zone.ensures.1, ← c.in_ok-transit.ensures, ← c.in_ok-stub.ensures, ← c.in_ok-minimum_speed.ensures, ← c.in_ok-maximum_speed.ensures, ← c.in_ok-domain.ensures, ← c.in_ok-node.ensures, ← c.in_ok-diameter.ensures, ← c.in_err-time_zone.ensures)

pub returns : goal.returns
unfolding values optional present size_of bit_of option_at continue ◌>>=◌ give
returns c = rw (← c.in_ok-transit.ensures, ← c.in_ok-stub.ensures, ← c.in_ok-minimum_speed.ensures, ← c.in_ok-maximum_speed.ensures, ← c.in_ok-domain.ensures, ← c.in_ok-node.ensures, ← c.in_ok-diameter.ensures, ← c.in_ok-time_zone.ensures)
