-- Damaged messages worked out by hand from 01 and E3 (02): each field of each kind wrong, with the number and the place of the refusal. A message is
-- the number of its octets and one numeral, with the fields between underscores. Messages cut after every octet are in Cuts.antt, IPv6's messages
-- in Faults6.antt.
--     Fault, faults       the family and the path, a reading call, a message, 01's number, the place; of a Hello without the call
--     Single, singles     a record read singly: the family, the kind, the octets, the place, and what comes of it
--     is_fault             whether a row holds of the definitions
-- That every row holds is one computation, in proofs/Faults.antt. Assumes nothing: these are definitions.
use Rattle.std.specs.Prelude.{ℕ, ◌≡◌, Bool, true, false, ◌&&◌, List, [], ◌∷◌, eqb}
use Rattle.octets.specs.Octets.{be}
use Rattle.records.specs.Records.{assert, pair}
use Rattle.format.specs.Outcome.{Outcome, gives, refuses}
use Rattle.format.specs.Reader.{Read, got, bad}
use Rattle.format.specs.Path.{nowhere}
use Rattle.format.specs.Family.{Family, ipv4}
use Rattle.format.specs.Record
use Rattle.format.specs.Record.{an_assert, a_pair, record_at}
use Rattle.format.specs.Unpacking.{unpack_asserts, unpack_pairs}
use Rattle.format.specs.declared.Path.{Path}
use Rattle.format.specs.declared.Kind.{Kind}
use Rattle.format.specs.declared.Kind.TheVariants.{Hello, Assert, Simple, Aggregated, NullRegister, RegisterStop}
use Rattle.hello.specs.Hello.{read_hello}
use Rattle.cases.specs.Messages.{Call, asserts, pairs}

pub data Fault : Type 0 where
  fault : Family → Path → Call → ℕ → ℕ → ℕ → ℕ → Fault
  hello_fault : Family → Path → ℕ → ℕ → ℕ → ℕ → Fault

unfoldable pub refused_with : {A : Type 0} → ℕ → ℕ → Outcome A → Bool
refused_with n p (gives a) = false
refused_with n p (refuses m q) = eqb m n && eqb q p

unfoldable pub is_fault : Fault → Bool
is_fault (fault f path asserts k m n p) = refused_with n p (unpack_asserts f path (be k m))
is_fault (fault f path pairs k m n p) = refused_with n p (unpack_pairs f path (be k m))
is_fault (hello_fault f path k m n p) = refused_with n p (read_hello f path (be k m))

unfoldable pub all_faults : List Fault → Bool
all_faults [] = true
all_faults (x ∷ l) = is_fault x && all_faults l

unfoldable pub faults : List Fault
faults =
    -- messages under 4 octets
    -- no octet
    fault ipv4 nowhere asserts 0 0 1 0
    -- three octets
    ∷ fault ipv4 nowhere asserts 3 0x2501e5 1 0
    -- version, checksum and kind, in this order
    -- version 1, and a wrong checksum
    ∷ fault ipv4 nowhere asserts 26 0x1500_0000_01000020e8010101_01000a000001_0000006e_00000014 2 0
    -- type 15, and a wrong checksum
    ∷ fault ipv4 nowhere asserts 12 0x2f00_0000_01000020e8010101 3 0
    -- type 1, a Register
    ∷ fault ipv4 nowhere asserts 8 0x2100_deff_00000000 4 0
    -- type 13, subtype 2
    ∷ fault ipv4 nowhere pairs 18 0x2d20_ddbb_01000020e8010101_01000a000001 4 0
    -- a Hello, read as asserts
    ∷ fault ipv4 nowhere asserts 4 0x2000_dfff 4 0
    -- a Null-Register message, read as asserts
    ∷ fault ipv4 nowhere asserts 18 0x2d00_dddb_01000020e8010101_01000a000001 4 0
    -- a simple message, read as pairs
    ∷ fault ipv4 nowhere pairs 30 0x2501_e558_00000000_01000020e8010101_01000a000001_0000006e_00000014 4 0
    -- a Hello, read as pairs
    ∷ fault ipv4 nowhere pairs 4 0x2000_dfff 4 0
    -- a simple message, read as a Hello
    ∷ hello_fault ipv4 nowhere 30 0x2501_e558_00000000_01000020e8010101_01000a000001_0000006e_00000014 4 0
    -- a plain assert, cut, and with a bad field: at one field 6 before the rest, and then octet order
    -- cut in the group, of another family
    ∷ fault ipv4 nowhere asserts 9 0x2500_d8df_0200002000 6 4
    -- cut in the source, of another family
    ∷ fault ipv4 nowhere asserts 17 0x2500_e4dc_01000020e8010101_02000a0000 6 12
    -- a bad group, cut in the source
    ∷ fault ipv4 nowhere asserts 17 0x2500_e5dd_0100001fe8010101_01000a0000 7 4
    -- a bad source, cut in the R word
    ∷ fault ipv4 nowhere asserts 21 0x2500_e4db_01000020e8010101_02000a000001_000000 7 12
    -- cut in the R word, the source 0
    ∷ fault ipv4 nowhere asserts 20 0x2500_efdc_01000020e8010101_010000000000_0000 6 18
    -- R=0 with source 0, before the metric: found at the R word, placed at the source
    ∷ fault ipv4 nowhere asserts 22 0x2500_ef6e_01000020e8010101_010000000000_0000006e 7 12
    -- R=0 with source 0, cut in the metric
    ∷ fault ipv4 nowhere asserts 25 0x2500_ef6e_01000020e8010101_010000000000_0000006e_000000 7 12
    -- a plain assert with a bad field
    -- the group of family 2
    ∷ fault ipv4 nowhere asserts 26 0x2500_e459_02000020e8010101_01000a000001_0000006e_00000014 7 4
    -- the group with encoding type 1
    ∷ fault ipv4 nowhere asserts 26 0x2500_e558_01010020e8010101_01000a000001_0000006e_00000014 7 4
    -- mask length 31
    ∷ fault ipv4 nowhere asserts 26 0x2500_e55a_0100001fe8010101_01000a000001_0000006e_00000014 7 4
    -- group 223.255.255.255
    ∷ fault ipv4 nowhere asserts 26 0x2500_ee5c_01000020dfffffff_01000a000001_0000006e_00000014 7 4
    -- group 240.0.0.0
    ∷ fault ipv4 nowhere asserts 26 0x2500_de5b_01000020f0000000_01000a000001_0000006e_00000014 7 4
    -- the source of family 2
    ∷ fault ipv4 nowhere asserts 26 0x2500_e459_01000020e8010101_02000a000001_0000006e_00000014 7 12
    -- the source with encoding type 1
    ∷ fault ipv4 nowhere asserts 26 0x2500_e558_01000020e8010101_01010a000001_0000006e_00000014 7 12
    -- the source with encoding type 1, R=1
    ∷ fault ipv4 nowhere asserts 26 0x2500_6558_01000020e8010101_01010a000001_8000006e_00000014 7 12
    -- R=0 with source 0
    ∷ fault ipv4 nowhere asserts 26 0x2500_ef5a_01000020e8010101_010000000000_0000006e_00000014 7 12
    -- an octet follows
    ∷ fault ipv4 nowhere asserts 27 0x2500_e559_01000020e8010101_01000a000001_0000006e_00000014_00 6 26
    -- a bad group, and an octet follows
    ∷ fault ipv4 nowhere asserts 27 0x2500_e55a_0100001fe8010101_01000a000001_0000006e_00000014_00 7 4
    -- R=0 with source 0, and an octet follows
    ∷ fault ipv4 nowhere asserts 27 0x2500_ef5a_01000020e8010101_010000000000_0000006e_00000014_00 7 12
    -- a simple message: Zero
    -- not 0, cut in Reserved
    ∷ fault ipv4 nowhere asserts 5 0x2501_d9fe_01 5 4
    -- not 0
    ∷ fault ipv4 nowhere asserts 30 0x2501_e458_01000000_01000020e8010101_01000a000001_0000006e_00000014 5 4
    -- not 0, and no record
    ∷ fault ipv4 nowhere asserts 8 0x2501_5afe_80000000 5 4
    -- a simple message: the field at fault
    -- the group of the first of family 2
    ∷ fault ipv4 nowhere asserts 30 0x2501_e458_00000000_02000020e8010101_01000a000001_0000006e_00000014 7 8
    -- the source of the first with encoding type 1
    ∷ fault ipv4 nowhere asserts 30 0x2501_e557_00000000_01000020e8010101_01010a000001_0000006e_00000014 7 16
    -- the first with R=0 and source 0
    ∷ fault ipv4 nowhere asserts 30 0x2501_ef59_00000000_01000020e8010101_010000000000_0000006e_00000014 7 16
    -- the group of the second with mask length 31
    ∷ fault ipv4 nowhere asserts 52 0x2501_efb2_00000000_01000020e8010101_01000a000001_0000006e_00000014_0100001fe8010102_01000a000001_0000006e_00000014 7 30
    -- the source of the second of family 2
    ∷ fault ipv4 nowhere asserts 52 0x2501_eeb1_00000000_01000020e8010101_01000a000001_0000006e_00000014_01000020e8010102_02000a000001_0000006e_00000014 7 38
    -- the second with R=0 and source 0
    ∷ fault ipv4 nowhere asserts 52 0x2501_f9b2_00000000_01000020e8010101_01000a000001_0000006e_00000014_01000020e8010102_010000000000_0000006e_00000014 7 38
    -- the first bad, the second cut
    ∷ fault ipv4 nowhere asserts 31 0x2501_e46c_00000000_0100000ce8010101_01000a000001_0000006e_00000014_01 7 8
    -- an aggregated message: Zero
    -- not 0
    ∷ fault ipv4 nowhere asserts 34 0x2503_e455_01000000_0000006e_00000014_01000a000001_0001_0000_01000020e8010101 5 4
    -- not 0, and no record
    ∷ fault ipv4 nowhere asserts 8 0x2503_d9fc_01000000 5 4
    -- a source aggregated record with a bad field
    -- source 0
    ∷ fault ipv4 nowhere asserts 34 0x2503_ef56_00000000_0000006e_00000014_010000000000_0001_0000_01000020e8010101 7 16
    -- the source of family 2
    ∷ fault ipv4 nowhere asserts 34 0x2503_e455_00000000_0000006e_00000014_02000a000001_0001_0000_01000020e8010101 7 16
    -- the source with encoding type 1
    ∷ fault ipv4 nowhere asserts 34 0x2503_e554_00000000_0000006e_00000014_01010a000001_0001_0000_01000020e8010101 7 16
    -- number of groups 0
    ∷ fault ipv4 nowhere asserts 34 0x2503_e556_00000000_0000006e_00000014_01000a000001_0000_0000_01000020e8010101 6 22
    -- number of groups 0, before its reserved octets
    ∷ fault ipv4 nowhere asserts 24 0x2503_cf79_00000000_0000006e_00000014_01000a000001_0000 6 22
    -- the group of family 2
    ∷ fault ipv4 nowhere asserts 34 0x2503_e455_00000000_0000006e_00000014_01000a000001_0001_0000_02000020e8010101 7 26
    -- three groups asked for, the second bad and the third missing: octet order decides
    ∷ fault ipv4 nowhere asserts 42 0x2503_fb30_00000000_0000006e_00000014_01000a000001_0003_0000_01000020e8010101_0100001fe8010102 7 34
    -- one group asked for and two there: the second begins a record, which is cut before its source
    ∷ fault ipv4 nowhere asserts 42 0x2503_fb31_00000000_0000006e_00000014_01000a000001_0001_0000_01000020e8010101_01000020e8010102 6 42
    -- the second record at fault: source 0
    ∷ fault ipv4 nowhere asserts 60 0x2503_f9af_00000000_0000006e_00000014_01000a000001_0001_0000_01000020e8010101_0000006e_00000014_010000000000_0001_0000_01000020e8010101 7 42
    -- the second record at fault: its group
    ∷ fault ipv4 nowhere asserts 60 0x2503_d8b0_00000000_0000006e_00000014_01000a000001_0001_0000_01000020e8010101_0000006e_00000014_01000a000001_0001_0000_0101002000000000 7 52
    -- an RP aggregated record with a bad field
    -- number of group records 0
    ∷ fault ipv4 nowhere asserts 20 0x2503_5a7a_00000000_8000006e_00000014_0000_0000 6 16
    -- number of group records 0, before its reserved octets
    ∷ fault ipv4 nowhere asserts 18 0x2503_5a7a_00000000_8000006e_00000014_0000 6 16
    -- the group 129.1.1.1
    ∷ fault ipv4 nowhere asserts 32 0x2503_d756_00000000_8000006e_00000014_0001_0000_0100002081010101_0000_0000 7 20
    -- a source with encoding type 1
    ∷ fault ipv4 nowhere asserts 38 0x2503_6553_00000000_8000006e_00000014_0001_0000_01000020e8010101_0001_0000_01010a000001 7 32
    -- the second source of family 2
    ∷ fault ipv4 nowhere asserts 44 0x2503_5952_00000000_8000006e_00000014_0001_0000_01000020e8010101_0002_0000_01000a000001_02000a000001 7 38
    -- the group of the second group record with mask length 24
    ∷ fault ipv4 nowhere asserts 44 0x2503_8639_00000000_8000006e_00000014_0002_0000_01000020e8010101_0000_0000_01000018e8010102_0000_0000 7 32
    -- two group records asked for and one there
    ∷ fault ipv4 nowhere asserts 32 0x2503_7055_00000000_8000006e_00000014_0002_0000_01000020e8010101_0000_0000 6 32
    -- pairs with a bad field
    -- Null-Register: the group with mask length 24
    ∷ fault ipv4 nowhere pairs 18 0x2d00_dde3_01000018e8010101_01000a000001 7 4
    -- Null-Register: the source of family 2
    ∷ fault ipv4 nowhere pairs 18 0x2d00_dcdb_01000020e8010101_02000a000001 7 12
    -- Null-Register: the source with encoding type 1
    ∷ fault ipv4 nowhere pairs 18 0x2d00_ddda_01000020e8010101_01010a000001 7 12
    -- Null-Register: the group of the second 1.1.1.1
    ∷ fault ipv4 nowhere pairs 32 0x2d00_cfb8_01000020e8010101_01000a000001_0100002001010101_01000a000001 7 18
    -- Null-Register: the source of the second of family 2
    ∷ fault ipv4 nowhere pairs 32 0x2d00_e7b6_01000020e8010101_01000a000001_01000020e8010102_02000a000001 7 26
    -- Register-Stop: the group with mask length 24
    ∷ fault ipv4 nowhere pairs 18 0x2d10_ddd3_01000018e8010101_01000a000001 7 4
    -- Register-Stop: the source of family 2
    ∷ fault ipv4 nowhere pairs 18 0x2d10_dccb_01000020e8010101_02000a000001 7 12
    -- Register-Stop: the source with encoding type 1
    ∷ fault ipv4 nowhere pairs 18 0x2d10_ddca_01000020e8010101_01010a000001 7 12
    -- Register-Stop: the group of the second 1.1.1.1
    ∷ fault ipv4 nowhere pairs 32 0x2d10_cfa8_01000020e8010101_01000a000001_0100002001010101_01000a000001 7 18
    -- Register-Stop: the source of the second of family 2
    ∷ fault ipv4 nowhere pairs 32 0x2d10_e7a6_01000020e8010101_01000a000001_01000020e8010102_02000a000001 7 26
    -- a Null-Register source 0
    ∷ fault ipv4 nowhere pairs 18 0x2d00_e7dc_01000020e8010101_010000000000 7 12
    -- a Null-Register source 0, the second
    ∷ fault ipv4 nowhere pairs 32 0x2d00_f2b7_01000020e8010101_01000a000001_01000020e8010102_010000000000 7 26
    -- a Hello: 13 is at the option, before its value
    -- the holdtime with length 4
    ∷ hello_fault ipv4 nowhere 12 0x2000_df91_0001_0004_00000069 13 4
    -- the holdtime with length 3, without its value
    ∷ hello_fault ipv4 nowhere 8 0x2000_dffb_0001_0003 13 4
    -- the holdtime twice, the second without its value
    ∷ hello_fault ipv4 nowhere 14 0x2000_df90_0001_0002_0069_0001_0002 13 10
    -- the priority with length 2, after another option
    ∷ hello_fault ipv4 nowhere 15 0x2000_1b9b_0063_0001_aa_0013_0002_0005 13 9
    -- the packing capability with length 1, cut in its value
    ∷ hello_fault ipv4 nowhere 8 0x2000_dfd6_0028_0001 13 4
    -- the packing capability twice
    ∷ hello_fault ipv4 nowhere 12 0x2000_dfaf_0028_0000_0028_0000 13 8
    ∷ []

-- ---- records read singly

pub data Single : Type 0 where
  single : Family → Kind → ℕ → ℕ → ℕ → Read Record.Single → Single

unfoldable pub IsSingle : Single → Type 0
IsSingle (single f k n m at r) = record_at f k (be n m) at ≡ r

unfoldable pub singles : List Single
singles =
    -- an assert record after two octets, and what follows it is no fault
    single ipv4 Simple 26 0xffff_01000020e8010101_01000a000001_0000006e_00000014_ffff 2 (got (an_assert (assert 0xe801_0101 0x0a00_0001 110 20)) 24)
    -- the same as a plain assert's
    ∷ single ipv4 Assert 22 0x01000020e8010101_01000a000001_0000006e_00000014 0 (got (an_assert (assert 0xe801_0101 0x0a00_0001 110 20)) 22)
    -- a pair with source 0, which a Register-Stop message may hold and a Null-Register message not
    ∷ single ipv4 RegisterStop 16 0xffff_01000020e8010101_010000000000 2 (got (a_pair (pair 0xe801_0101 0)) 16)
    ∷ single ipv4 NullRegister 16 0xffff_01000020e8010101_010000000000 2 (bad 7 10)
    -- kinds that have no such record, before the octets are looked at
    ∷ single ipv4 Hello 0 0 9 (bad 4 0)
    ∷ single ipv4 Aggregated 0 0 9 (bad 4 0)
    -- at the end of the octets, past it, and as far as a place can be
    ∷ single ipv4 Simple 2 0xffff 2 (bad 6 2)
    ∷ single ipv4 Simple 2 0xffff 3 (bad 6 3)
    ∷ single ipv4 NullRegister 2 0xffff 18446744073709551615 (bad 6 18446744073709551615)
    -- cut in the group, and a bad group, after three octets
    ∷ single ipv4 Assert 10 0xffffff_01000020e80101 3 (bad 6 3)
    ∷ single ipv4 RegisterStop 17 0xffffff_0100001fe8010101_01000a000001 3 (bad 7 3)
    -- cut in the source, before it, and a bad source
    ∷ single ipv4 Simple 15 0xffffff_01000020e8010101_01000a00 3 (bad 6 11)
    ∷ single ipv4 NullRegister 11 0xffffff_01000020e8010101 3 (bad 6 11)
    ∷ single ipv4 RegisterStop 17 0xffffff_01000020e8010101_02000a000001 3 (bad 7 11)
    -- R=0 and source 0: cut in the R word, before the metric, whole
    ∷ single ipv4 Simple 20 0xffffff_01000020e8010101_010000000000_000000 3 (bad 6 17)
    ∷ single ipv4 Assert 21 0xffffff_01000020e8010101_010000000000_0000006e 3 (bad 7 11)
    ∷ single ipv4 Simple 25 0xffffff_01000020e8010101_010000000000_0000006e_00000014 3 (bad 7 11)
    -- cut before the metric, and in it
    ∷ single ipv4 Assert 21 0xffffff_01000020e8010101_01000a000001_0000006e 3 (bad 6 21)
    ∷ single ipv4 Simple 24 0xffffff_01000020e8010101_01000a000001_0000006e_000000 3 (bad 6 21)
    ∷ []
