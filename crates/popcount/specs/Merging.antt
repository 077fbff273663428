-- The merging call (01, "Pop-Count"): "Our own values are MTU, flags, transit, stub and both speeds; the contributors are the attributes from
-- downstream, lent one after another, possibly none."
--     contributors                 the attributes lent, or the first fault
--     merged_values, merged         the merged attribute, from the contributors alone
--     merging                      the call: 8 last
-- Assumes nothing: these are definitions.
use Rattle.std.specs.Prelude.{ℕ, Bool, List, length, ltb}
use Rattle.format.specs.Outcome.{Outcome, gives, refuse_if, ◌>>=◌, ◌>>◌}
use Rattle.format.specs.Reader.{from, to_end}
use Rattle.format.specs.Writing.{WritingCall, into_buffer}
use Rattle.attributes.specs.Options.{transit, stub, minimum_speed, maximum_speed, node, diameter}
use Rattle.attributes.specs.Attribute.{attribute, attribute_octets}
use Rattle.attributes.specs.declared.read.Attribute.{Attribute}
use Rattle.attributes.specs.declared.options.Values.{Values}
use Rattle.popcount.specs.Rules.{merged_mtu, merged_flags, merged_transit, merged_stub, merged_node, merged_diameter, merged_minimum, merged_maximum, if_given, merged_options}
use Rattle.popcount.specs.declared.tally.Own.{Own}

unfoldable pub contributors : List ℕ → Outcome (List Attribute)
contributors o = from 0 (to_end (length o) attribute) o

unfoldable pub merged_values : Own → List Attribute → Values
merged_values own l = record {
  transit = if_given transit l (merged_transit own l);
  stub = if_given stub l (merged_stub own l);
  minimum_speed = if_given minimum_speed l (merged_minimum own l);
  maximum_speed = if_given maximum_speed l (merged_maximum own l);
  domain = 0;
  node = if_given node l (merged_node l);
  diameter = if_given diameter l (merged_diameter l);
  time_zone = 0;
}

-- "E as the caller says"
unfoldable pub merged : Own → Bool → List Attribute → Attribute
merged own sayE l = record { e = sayE; mtu = merged_mtu own l; flags = merged_flags own l; options = merged_options l; values = merged_values own l }

-- 8: "else less than is written"
unfoldable pub merging : Own → Bool → List ℕ → List ℕ → WritingCall
merging own sayE o d = into_buffer d do
  l ← contributors o
  refuse_if (ltb (length d) (length (attribute_octets (merged own sayE l)))) 8 0
  gives (attribute_octets (merged own sayE l))
