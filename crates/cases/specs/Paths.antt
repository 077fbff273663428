-- The addresses that IPv6's rows are summed with (RFC 8200, 8.1).
--     lan, from_one                      an Assert's or a Hello's: from a link-local address to all PIM routers
--     to_rp                              a Register's: from a designated router to the RP
--     other_source, other_destination     the first with one of its addresses changed in one bit
-- Assumes nothing: these are definitions.
use Rattle.format.specs.declared.Path.{Path}

-- fe80::a1a2:a3a4:a5a6:a7a8, ff02::d
abbrev pub lan : Path
lan = record {
  source = record { high = 0xfe80_0000_0000_0000; low = 0xa1a2_a3a4_a5a6_a7a8 };
  destination = record { high = 0xff02_0000_0000_0000; low = 0x0000_0000_0000_000d };
}

-- fe80::1, ff02::d
abbrev pub from_one : Path
from_one = record {
  source = record { high = 0xfe80_0000_0000_0000; low = 0x0000_0000_0000_0001 };
  destination = record { high = 0xff02_0000_0000_0000; low = 0x0000_0000_0000_000d };
}

-- 2001:db8:b1b2:b3b4:b5b6:b7b8:b9ba:bbbc, 2001:db8:c1c2:c3c4:c5c6:c7c8:c9ca:cbcc
abbrev pub to_rp : Path
to_rp = record {
  source = record { high = 0x2001_0db8_b1b2_b3b4; low = 0xb5b6_b7b8_b9ba_bbbc };
  destination = record { high = 0x2001_0db8_c1c2_c3c4; low = 0xc5c6_c7c8_c9ca_cbcc };
}

-- fe81::a1a2:a3a4:a5a6:a7a8, ff02::d
abbrev pub other_source : Path
other_source = record {
  source = record { high = 0xfe81_0000_0000_0000; low = 0xa1a2_a3a4_a5a6_a7a8 };
  destination = record { high = 0xff02_0000_0000_0000; low = 0x0000_0000_0000_000d };
}

-- fe80::a1a2:a3a4:a5a6:a7a8, ff02::c
abbrev pub other_destination : Path
other_destination = record {
  source = record { high = 0xfe80_0000_0000_0000; low = 0xa1a2_a3a4_a5a6_a7a8 };
  destination = record { high = 0xff02_0000_0000_0000; low = 0x0000_0000_0000_000c };
}
