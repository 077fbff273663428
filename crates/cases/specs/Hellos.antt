-- Hellos worked out by hand (02, E1; RFC 7761, 4.9.2), read and written alike, in buffers that are large enough, exact and too small.
--     Row, hellos     the family and the path, what is said, and the octets
--     IsRight         what it is for a row to hold of the definitions
-- That every row holds is computed in proofs/Hellos.antt. Assumes nothing: these are definitions.
use Rattle.std.specs.Prelude.{ℕ, ◌-◌, ◌≡◌, Bool, true, false, List, [], ◌∷◌, replicate}
use Rattle.std.proofs.Math.Option.{Option, none, some}
use Rattle.octets.specs.Octets.{be, ◌&◌}
use Rattle.format.specs.Outcome.{gives, refuses}
use Rattle.format.specs.Path.{nowhere}
use Rattle.format.specs.Family.{Family, ipv4, ipv6}
use Rattle.format.specs.declared.Path.{Path}
use Rattle.hello.specs.Hello.{hello, read_hello, write_hello}
use Rattle.cases.specs.Paths.{lan, from_one}

pub data Row : Type 0 where
  -- holdtime, priority, packing; the length and the message
  says : Family → Path → ℕ → Option ℕ → Bool → ℕ → ℕ → Row
  -- the same, read alone: it has options that are skipped
  hears : Family → Path → ℕ → Option ℕ → Bool → ℕ → ℕ → Row

-- what stands past the message stays; with an octet less nothing is written
unfoldable pub IsRight : Row → Type 0
IsRight (says f path h p c n m) =
    (read_hello f path (be n m) ≡ gives (hello h p c))
    × (write_hello f path (hello h p c) (replicate 30 170) ≡ record { answer = gives n; buffer = be n m & replicate (30 - n) 170 })
    × (write_hello f path (hello h p c) (replicate n 170) ≡ record { answer = gives n; buffer = be n m })
    × (write_hello f path (hello h p c) (replicate (n - 1) 170) ≡ record { answer = refuses 8 0; buffer = replicate (n - 1) 170 })
IsRight (hears f path h p c n m) = read_hello f path (be n m) ≡ gives (hello h p c)

unfoldable pub hellos : List Row
hellos =
    -- 0x2000 + 1 + 2 = 0x2003; a word 0xffff counts as 0
    says ipv4 nowhere 0 none false 10 0x2000_dffc_0001_0002_0000
    ∷ says ipv4 nowhere 65535 none false 10 0x2000_dffc_0001_0002_ffff
    -- 0x28 more: 0x202b
    ∷ says ipv4 nowhere 0 none true 14 0x2000_dfd4_0001_0002_0000_0028_0000
    -- 0x13 + 4 more than the first: 0x201a
    ∷ says ipv4 nowhere 0 (some 0) false 18 0x2000_dfe5_0001_0002_0000_0013_0004_00000000
    ∷ says ipv4 nowhere 65535 (some 0xffff_ffff) false 18 0x2000_dfe5_0001_0002_ffff_0013_0004_ffffffff
    -- both: 0x2042
    ∷ says ipv4 nowhere 65535 (some 0xffff_ffff) true 22 0x2000_dfbd_0001_0002_ffff_0013_0004_ffffffff_0028_0000
    -- 105 s, which is written too, and priority 5: 0x69 + 5 more, 0x20b0
    ∷ says ipv4 nowhere 105 (some 5) true 22 0x2000_df4f_0001_0002_0069_0013_0004_00000005_0028_0000
    -- a carry: 0x2003 + 0xe000 is 1_0003, and so 4
    ∷ says ipv4 nowhere 0xe000 none false 10 0x2000_fffb_0001_0002_e000
    -- the addresses do not count in IPv4
    ∷ says ipv4 lan 0 none false 10 0x2000_dffc_0001_0002_0000
    -- ---- IPv6: the pseudo-header of 10 octets is 0x9098, with 0x2003 0xb09b
    ∷ says ipv6 lan 0 none false 10 0x2000_4f64_0001_0002_0000
    ∷ says ipv6 lan 65535 none false 10 0x2000_4f64_0001_0002_ffff
    -- of 14 octets 0x909c, with 0x202b 0xb0c7
    ∷ says ipv6 lan 0 none true 14 0x2000_4f38_0001_0002_0000_0028_0000
    -- of 18 octets 0x90a0, with 0x201a 0xb0ba
    ∷ says ipv6 lan 65535 (some 0xffff_ffff) false 18 0x2000_4f45_0001_0002_ffff_0013_0004_ffffffff
    -- of 22 octets 0x90a4; 0x2042, 0x69 and 0x0102 + 0x0304 make 0x24b1: 0xb555
    ∷ says ipv6 lan 105 (some 0x0102_0304) true 22 0x2000_4aaa_0001_0002_0069_0013_0004_01020304_0028_0000
    -- 0x9098 + 0x2003 + 0x4f64 is 0xffff: the checksum is 0, which only UDP may not write
    ∷ says ipv6 lan 0x4f64 none false 10 0x2000_0000_0001_0002_4f64
    -- as FRR's pim6d 10.3 sent it from fe80::1 to ff02::d, with LAN prune delay, generation ID and address list
    ∷ hears ipv6 from_one 18 (some 1) false 56 0x2000_efc4_0001_0002_0012_0002_0004_01f409c4_0013_0004_00000001_0014_0004_3ea57776_0018_0012_020020010db8000700000000000000000001
    ∷ []
