-- `headers::message::body` meets its contract: `header` says whether there is a body.
-- Assumes nothing.
use native.Mathlib.Omega.{arith}
use Rattle.format.specs.Family.{family_of}
use Rattle.headers.proofs.Headers.{headed_room, body_some, body_none}
use Rattle.headers.proofs.message.body.Goals as goal

pub returns-in_default : goal.returns-in_default
returns-in_default c = let a = c.args in body_none (family_of a.ipv6) a.path a.m.now c.in_default.is c.header-h.ensures

pub slice_bounds-result-count : goal.slice_bounds-result-count
slice_bounds-result-count c = let a = c.args in omega (arith, headed_room (family_of a.ipv6) a.path a.m.now c.in-Ok.is c.header-h.ensures)

pub slice_bounds-result-start : goal.slice_bounds-result-start
slice_bounds-result-start c = let a = c.args in omega (arith, headed_room (family_of a.ipv6) a.path a.m.now c.in-Ok.is c.header-h.ensures)

pub returns : goal.returns
returns c = let a = c.args in body_some (family_of a.ipv6) a.path a.m.now c.in-Ok.is c.header-h.ensures
