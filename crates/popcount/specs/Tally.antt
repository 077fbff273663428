-- Merging in one pass: what is known of our own values and the contributors so far.
--     begun, counted               before the first contributor; with one more
--     attribute_of                  the attribute that a tally comes to
--     tallied, tally_of             what one pass over the contributors finds
--     finishing                    the call once the contributors are tallied
-- Assumes nothing: these are definitions.
use Rattle.std.specs.Prelude.{ℕ, ◌+◌, min, max, Bool, length, ltb}
use mathlib.Core.List.{List, foldl}
use Rattle.std.specs.Int.Bits.{bit_and, bit_or}
use Rattle.format.specs.Outcome.{Outcome, gives, refuses, refuse_if, ◌>>=◌, ◌>>◌}
use Rattle.format.specs.Writing.{WritingCall, into_buffer}
use Rattle.attributes.specs.Attribute.{attribute_octets}
use Rattle.attributes.specs.declared.read.Attribute.{Attribute}
use Rattle.popcount.specs.Rules.{p_flag, other_flags, at_most, slower, faster}
use Rattle.popcount.specs.Merging.{contributors}
use Rattle.popcount.specs.declared.tally.Own.{Own}
use Rattle.popcount.specs.declared.tally.Tally.{Tally}
use Rattle.std.specs.Prelude.{Result, Ok, Err}
use Rattle.format.specs.declared.Refusal.{Refusal}
use Rattle.format.specs.Outcome.{reason_number}

-- the six options that are merged, all given as yet
unfoldable pub begun : Own → Tally
begun own = record {
  mtu = own.mtu;
  any = own.flags;
  all = own.flags;
  options = 0xf600;
  transit = own.transit;
  stub = own.stub;
  minimum_speed = own.minimum_speed;
  maximum_speed = own.maximum_speed;
  node = 1;
  diameter = 0;
}

unfoldable pub counted : Tally → Attribute → Tally
counted t a = record {
  mtu = min t.mtu a.mtu;
  any = bit_or t.any a.flags;
  all = bit_and t.all a.flags;
  options = bit_and t.options a.options;
  transit = at_most 0xffff_ffff (t.transit + a.values.transit);
  stub = at_most 0xffff_ffff (t.stub + a.values.stub);
  minimum_speed = slower t.minimum_speed a.values.minimum_speed;
  maximum_speed = faster t.maximum_speed a.values.maximum_speed;
  node = at_most 255 (t.node + a.values.node);
  diameter = max t.diameter a.values.diameter;
}

-- an option that is not given is not looked at, so its value may be any
unfoldable pub attribute_of : Bool → Tally → Attribute
attribute_of sayE t = record {
  e = sayE;
  mtu = t.mtu;
  flags = bit_and other_flags t.any + bit_and p_flag t.all;
  options = t.options;
  values = record {
    transit = t.transit;
    stub = t.stub;
    minimum_speed = t.minimum_speed;
    maximum_speed = t.maximum_speed;
    domain = 0;
    node = t.node;
    diameter = at_most 255 (t.diameter + 1);
    time_zone = 0;
  };
}

unfoldable pub tallied : Result Tally Refusal → Outcome Tally
tallied (Ok t) = gives t
tallied (Err r) = refuses (reason_number r.reason) r.place

unfoldable pub tally_of : Own → List ℕ → Outcome Tally
tally_of own o = do
  l ← contributors o
  gives (foldl counted (begun own) l)

-- 8, or the octets written
unfoldable pub finishing : List ℕ → Attribute → WritingCall
finishing d a = into_buffer d do
  refuse_if (ltb (length d) (length (attribute_octets a))) 8 0
  gives (attribute_octets a)
