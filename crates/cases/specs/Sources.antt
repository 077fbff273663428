-- "A source in 224.0.0.0/4, and 255.255.255.255, is refused in records, pairs and entries, wherever 01 asks for a source" (02, E5), in IPv6 one in
-- ff00::/8 (E7), worked out by hand: each place where a source stands, with each of these addresses there.
--     Answer                       accepted, or refused by a number at a place
--     Place                        a place, and what comes of a real source there, of one that is shut out, and of 0
--     isPlace                      whether a row holds of the definitions
--     real, shut_out, places        addresses of IPv4 that a source may have, those that are shut out, and its places
--     real6, shut_out6, places6     the same of IPv6, where nothing is like 255.255.255.255
-- That every row holds is one computation, in proofs/Sources.antt. Assumes nothing: these are definitions.
use Rattle.std.specs.Prelude.{ℕ, Bool, true, false, not, ◌&&◌, List, [], ◌∷◌, replicate}
use Rattle.octets.specs.Octets.{be, ◌&◌}
use Rattle.format.specs.Outcome.{Outcome, refuses, ◌>>=◌}
use Rattle.format.specs.Reader.{from}
use Rattle.format.specs.Path.{nowhere}
use Rattle.format.specs.Family.{Family, ipv4, ipv6, may_be_source}
use Rattle.format.specs.Header.{message}
use Rattle.format.specs.Entry.{Entries}
use Rattle.format.specs.Record.{record_at}
use Rattle.format.specs.Unpacking.{unpack_asserts, unpack_pairs}
use Rattle.format.specs.Reading.{Found}
use Rattle.format.specs.Packing.{Form, plain, simple, aggregated, null_register, register_stop, packing}
use Rattle.format.specs.declared.Path.{Path}
use Rattle.format.specs.declared.Kind.{Kind}
use Rattle.format.specs.declared.Kind.TheVariants.{Hello, Assert, Simple, Aggregated, NullRegister, RegisterStop}
use Rattle.reporting.specs.Judging.{entries_in}
use Rattle.cases.specs.Paths.{lan, to_rp}
use Rattle.cases.specs.Faults.{refused_with}
use Rattle.cases.specs.Cuts.{is_given}

pub data Answer : Type 0 where
  accepted : Answer
  refused : ℕ → ℕ → Answer

-- the octets before the address, and those after it, as their number and a numeral; then the three answers
pub data Place : Type 1 where
  -- in the body of a message of a kind, which is sealed with each address and read by the call for that kind
  in_message : Family → Path → Kind → ℕ → ℕ → ℕ → ℕ → Answer → Answer → Answer → Place
  -- in a record of a kind that is read singly after two octets
  in_record : Family → Kind → ℕ → ℕ → ℕ → ℕ → Answer → Answer → Answer → Place
  -- in the entries of a packing call with limit 0 and a buffer of that size
  in_entries : {E : Entries} → Form E → Path → ℕ → ℕ → ℕ → ℕ → Answer → Answer → Answer → Place

unfoldable pub is_answer : {A : Type 0} → Answer → Outcome A → Bool
is_answer accepted x = is_given x
is_answer (refused n p) x = refused_with n p x

unfoldable pub all_answer : {A : Type 0} → (ℕ → Outcome A) → Answer → List ℕ → Bool
all_answer call a [] = true
all_answer call a (s ∷ l) = is_answer a (call s) && all_answer call a l

unfoldable pub around : Family → ℕ → ℕ → ℕ → ℕ → ℕ → List ℕ
around f i before j after s = be i before & be f.width s & be j after

-- a Hello has no source
unfoldable pub read_as : Family → Path → Kind → List ℕ → Outcome Found
read_as f p Hello m = refuses 4 0
read_as f p Assert m = unpack_asserts f p m >>= entries_in
read_as f p Simple m = unpack_asserts f p m >>= entries_in
read_as f p Aggregated m = unpack_asserts f p m >>= entries_in
read_as f p NullRegister m = unpack_pairs f p m >>= entries_in
read_as f p RegisterStop m = unpack_pairs f p m >>= entries_in

-- with addresses that a source may have, and those that are shut out
module _ (real shut_out : List ℕ) where
  unfoldable pub three : {A : Type 0} → (ℕ → Outcome A) → Answer → Answer → Answer → Bool
  three call r o z = all_answer call r real && all_answer call o shut_out && is_answer z (call 0)

  unfoldable pub isPlace : Place → Bool
  isPlace (in_message f p k i x j y r o z) = three (λ s. read_as f p k (message f p k (around f i x j y s))) r o z
  isPlace (in_record f k i x j y r o z) = three (λ s. from 2 (record_at f k) (around f i x j y s)) r o z
  isPlace (in_entries {E} F p i x j y r o z) = three (λ s. (packing F p (around E.family i x j y s) 0 0 (replicate 556 0)).answer) r o z

  unfoldable pub allPlaces : List Place → Bool
  allPlaces [] = true
  allPlaces (p ∷ l) = isPlace p && allPlaces l

-- ---- IPv4

-- 0.0.0.1, 10.0.0.1, 223.255.255.255, 240.0.0.0, 240.0.0.1, 255.255.255.254
unfoldable pub real : List ℕ
real = 1 ∷ 0x0a00_0001 ∷ 0xdfff_ffff ∷ 0xf000_0000 ∷ 0xf000_0001 ∷ 0xffff_fffe ∷ []

-- 224.0.0.0, 232.1.1.1, 239.255.255.255, 255.255.255.255
unfoldable pub shut_out : List ℕ
shut_out = 0xe000_0000 ∷ 0xe801_0101 ∷ 0xefff_ffff ∷ 0xffff_ffff ∷ []

unfoldable pub places : List Place
places =
    -- a plain assert, with R=0 and with R=1
    in_message ipv4 nowhere Assert 10 0x01000020e8010101_0100 8 0x0000006e_00000014 accepted (refused 7 12) (refused 7 12)
    ∷ in_message ipv4 nowhere Assert 10 0x01000020e8010101_0100 8 0x8000006e_00000014 accepted (refused 7 12) accepted
    -- it is found at the source: before the R word, and cut in it
    ∷ in_message ipv4 nowhere Assert 10 0x01000020e8010101_0100 0 0 (refused 6 18) (refused 7 12) (refused 6 18)
    ∷ in_message ipv4 nowhere Assert 10 0x01000020e8010101_0100 3 0x800000 (refused 6 18) (refused 7 12) (refused 6 18)
    -- after a bad group, and of family 2: 7 whatever the address
    ∷ in_message ipv4 nowhere Assert 10 0x0100001fe8010101_0100 8 0x8000006e_00000014 (refused 7 4) (refused 7 4) (refused 7 4)
    ∷ in_message ipv4 nowhere Assert 10 0x01000020e8010101_0200 8 0x8000006e_00000014 (refused 7 12) (refused 7 12) (refused 7 12)
    -- a simple message: the second record, with R=0 and with R=1; the first, where the second is cut
    ∷ in_message ipv4 nowhere Simple 36 0x00000000_01000020e8010101_01000a000001_0000006e_00000014_01000020e8010102_0100 8 0x0000006e_00000014 accepted (refused 7 38) (refused 7 38)
    ∷ in_message ipv4 nowhere Simple 36 0x00000000_01000020e8010101_01000a000001_0000006e_00000014_01000020e8010102_0100 8 0x8000006e_00000014 accepted (refused 7 38) accepted
    ∷ in_message ipv4 nowhere Simple 14 0x00000000_01000020e8010101_0100 11 0x8000006e_00000014_010000 (refused 6 30) (refused 7 16) (refused 6 30)
    -- a source aggregated record; before a number of groups that is 0; the second record
    ∷ in_message ipv4 nowhere Aggregated 14 0x00000000_0000006e_00000014_0100 12 0x0001_0000_01000020e8010101 accepted (refused 7 16) (refused 7 16)
    ∷ in_message ipv4 nowhere Aggregated 14 0x00000000_0000006e_00000014_0100 4 0x0000_0000 (refused 6 22) (refused 7 16) (refused 7 16)
    ∷ in_message ipv4 nowhere Aggregated 40 0x00000000_0000006e_00000014_01000a000001_0001_0000_01000020e8010101_0000006e_00000014_0100 12 0x0001_0000_01000020e8010101 accepted (refused 7 42) (refused 7 42)
    -- an RP aggregated record: the first source of a group record, the second one, the first where the second is missing
    ∷ in_message ipv4 nowhere Aggregated 30 0x00000000_8000006e_00000014_0001_0000_01000020e8010101_0002_0000_0100 6 0x01000a000001 accepted (refused 7 32) accepted
    ∷ in_message ipv4 nowhere Aggregated 36 0x00000000_8000006e_00000014_0001_0000_01000020e8010101_0002_0000_01000a000001_0100 0 0 accepted (refused 7 38) accepted
    ∷ in_message ipv4 nowhere Aggregated 30 0x00000000_8000006e_00000014_0001_0000_01000020e8010101_0002_0000_0100 0 0 (refused 6 38) (refused 7 32) (refused 6 38)
    -- pairs: the first and the second of each kind
    ∷ in_message ipv4 nowhere NullRegister 10 0x01000020e8010101_0100 0 0 accepted (refused 7 12) (refused 7 12)
    ∷ in_message ipv4 nowhere NullRegister 24 0x01000020e8010101_01000a000001_01000020e8010102_0100 0 0 accepted (refused 7 26) (refused 7 26)
    ∷ in_message ipv4 nowhere RegisterStop 10 0x01000020e8010101_0100 0 0 accepted (refused 7 12) accepted
    ∷ in_message ipv4 nowhere RegisterStop 24 0x01000020e8010101_010000000000_01000020e8010102_0100 0 0 accepted (refused 7 26) accepted
    -- records read singly: an assert with R=1, cut in its R word, and with R=0; pairs
    ∷ in_record ipv4 Assert 12 0xffff_01000020e8010101_0100 8 0x8000006e_00000014 accepted (refused 7 10) accepted
    ∷ in_record ipv4 Assert 12 0xffff_01000020e8010101_0100 2 0x8000 (refused 6 16) (refused 7 10) (refused 6 16)
    ∷ in_record ipv4 Simple 12 0xffff_01000020e8010101_0100 8 0x0000006e_00000014 accepted (refused 7 10) (refused 7 10)
    ∷ in_record ipv4 NullRegister 12 0xffff_01000020e8010101_0100 0 0 accepted (refused 7 10) (refused 7 10)
    ∷ in_record ipv4 RegisterStop 12 0xffff_01000020e8010101_0100 0 0 accepted (refused 7 10) accepted
    -- entries: the second of two asserts, with R=0 and with R=1; the second of two pairs
    ∷ in_entries (plain ipv4) nowhere 28 0x01000000_e8010101_0a000001_0000006e_00000014_01000000_e8010102 8 0x0000006e_00000014 accepted (refused 7 1) (refused 7 1)
    ∷ in_entries (simple ipv4) nowhere 28 0x01000000_e8010101_0a000001_0000006e_00000014_01000000_e8010102 8 0x0000006e_00000014 accepted (refused 7 1) (refused 7 1)
    ∷ in_entries (simple ipv4) nowhere 28 0x01000000_e8010101_0a000001_0000006e_00000014_01000000_e8010102 8 0x8000006e_00000014 accepted (refused 7 1) accepted
    ∷ in_entries (aggregated ipv4) nowhere 28 0x01000000_e8010101_0a000001_0000006e_00000014_01000000_e8010102 8 0x0000006e_00000014 accepted (refused 7 1) (refused 7 1)
    ∷ in_entries (aggregated ipv4) nowhere 28 0x01000000_e8010101_0a000001_0000006e_00000014_01000000_e8010102 8 0x8000006e_00000014 accepted (refused 7 1) accepted
    ∷ in_entries (null_register ipv4) nowhere 20 0x01000000_e8010101_0a000001_01000000_e8010102 0 0 accepted (refused 7 1) (refused 7 1)
    ∷ in_entries (register_stop ipv4) nowhere 20 0x01000000_e8010101_0a000001_01000000_e8010102 0 0 accepted (refused 7 1) accepted
    -- a list that is not whole is 10 first
    ∷ in_entries (register_stop ipv4) nowhere 20 0x01000000_e8010101_0a000001_01000000_e8010102 1 0 (refused 10 0) (refused 10 0) (refused 10 0)
    ∷ []

-- ---- IPv6

-- ::1, ff:ff::, 2001:db8::1, fe80::1, feff:ffff:ffff:ffff:ffff:ffff:ffff:ffff
unfoldable pub real6 : List ℕ
real6 =
    1
    ∷ 0x00ff_00ff_0000_0000_0000_0000_0000_0000
    ∷ 0x2001_0db8_0000_0000_0000_0000_0000_0001
    ∷ 0xfe80_0000_0000_0000_0000_0000_0000_0001
    ∷ 0xfeff_ffff_ffff_ffff_ffff_ffff_ffff_ffff
    ∷ []

-- ff00::, ff02::d, ff3e::1, ffff:ffff:ffff:ffff:ffff:ffff:ffff:ffff
unfoldable pub shut_out6 : List ℕ
shut_out6 =
    0xff00_0000_0000_0000_0000_0000_0000_0000
    ∷ 0xff02_0000_0000_0000_0000_0000_0000_000d
    ∷ 0xff3e_0000_0000_0000_0000_0000_0000_0001
    ∷ 0xffff_ffff_ffff_ffff_ffff_ffff_ffff_ffff
    ∷ []

unfoldable pub places6 : List Place
places6 =
    -- a plain assert, with R=0 and with R=1
    in_message ipv6 lan Assert 22 0x02000080ff3e0000000000000000000000000101_0200 8 0x0000006e_00000014 accepted (refused 7 24) (refused 7 24)
    ∷ in_message ipv6 lan Assert 22 0x02000080ff3e0000000000000000000000000101_0200 8 0x8000006e_00000014 accepted (refused 7 24) accepted
    -- it is found at the source: before the R word, and cut in it
    ∷ in_message ipv6 lan Assert 22 0x02000080ff3e0000000000000000000000000101_0200 0 0 (refused 6 42) (refused 7 24) (refused 6 42)
    ∷ in_message ipv6 lan Assert 22 0x02000080ff3e0000000000000000000000000101_0200 3 0x800000 (refused 6 42) (refused 7 24) (refused 6 42)
    -- after a bad group, and of family 1: 7 whatever the address
    ∷ in_message ipv6 lan Assert 22 0x0200007fff3e0000000000000000000000000101_0200 8 0x8000006e_00000014 (refused 7 4) (refused 7 4) (refused 7 4)
    ∷ in_message ipv6 lan Assert 22 0x02000080ff3e0000000000000000000000000101_0100 8 0x8000006e_00000014 (refused 7 24) (refused 7 24) (refused 7 24)
    -- a simple message: the second record, with R=0 and with R=1; the first, where the second is cut
    ∷ in_message ipv6 lan Simple 72 0x00000000_02000080ff3e0000000000000000000000000101_020020010db8000000000000000000000001_0000006e_00000014_02000080ff3e0000000000000000000000000102_0200 8 0x0000006e_00000014 accepted (refused 7 74) (refused 7 74)
    ∷ in_message ipv6 lan Simple 72 0x00000000_02000080ff3e0000000000000000000000000101_020020010db8000000000000000000000001_0000006e_00000014_02000080ff3e0000000000000000000000000102_0200 8 0x8000006e_00000014 accepted (refused 7 74) accepted
    ∷ in_message ipv6 lan Simple 26 0x00000000_02000080ff3e0000000000000000000000000101_0200 11 0x8000006e_00000014_020000 (refused 6 54) (refused 7 28) (refused 6 54)
    -- a source aggregated record; before a number of groups that is 0; the second record
    ∷ in_message ipv6 lan Aggregated 14 0x00000000_0000006e_00000014_0200 24 0x0001_0000_02000080ff3e0000000000000000000000000101 accepted (refused 7 16) (refused 7 16)
    ∷ in_message ipv6 lan Aggregated 14 0x00000000_0000006e_00000014_0200 4 0x0000_0000 (refused 6 34) (refused 7 16) (refused 7 16)
    ∷ in_message ipv6 lan Aggregated 64 0x00000000_0000006e_00000014_020020010db8000000000000000000000001_0001_0000_02000080ff3e0000000000000000000000000101_0000006e_00000014_0200 24 0x0001_0000_02000080ff3e0000000000000000000000000101 accepted (refused 7 66) (refused 7 66)
    -- an RP aggregated record: the first source of a group record, the second one, the first where the second is missing
    ∷ in_message ipv6 lan Aggregated 42 0x00000000_8000006e_00000014_0001_0000_02000080ff3e0000000000000000000000000101_0002_0000_0200 18 0x020020010db8000000000000000000000001 accepted (refused 7 44) accepted
    ∷ in_message ipv6 lan Aggregated 60 0x00000000_8000006e_00000014_0001_0000_02000080ff3e0000000000000000000000000101_0002_0000_020020010db8000000000000000000000001_0200 0 0 accepted (refused 7 62) accepted
    ∷ in_message ipv6 lan Aggregated 42 0x00000000_8000006e_00000014_0001_0000_02000080ff3e0000000000000000000000000101_0002_0000_0200 0 0 (refused 6 62) (refused 7 44) (refused 6 62)
    -- pairs: the first and the second of each kind
    ∷ in_message ipv6 to_rp NullRegister 22 0x02000080ff3e0000000000000000000000000101_0200 0 0 accepted (refused 7 24) (refused 7 24)
    ∷ in_message ipv6 to_rp NullRegister 60 0x02000080ff3e0000000000000000000000000101_020020010db8000000000000000000000001_02000080ff3e0000000000000000000000000102_0200 0 0 accepted (refused 7 62) (refused 7 62)
    ∷ in_message ipv6 to_rp RegisterStop 22 0x02000080ff3e0000000000000000000000000101_0200 0 0 accepted (refused 7 24) accepted
    ∷ in_message ipv6 to_rp RegisterStop 60 0x02000080ff3e0000000000000000000000000101_020000000000000000000000000000000000_02000080ff3e0000000000000000000000000102_0200 0 0 accepted (refused 7 62) accepted
    -- records read singly: an assert with R=1, cut in its R word, and with R=0; pairs
    ∷ in_record ipv6 Assert 24 0xffff_02000080ff3e0000000000000000000000000101_0200 8 0x8000006e_00000014 accepted (refused 7 22) accepted
    ∷ in_record ipv6 Assert 24 0xffff_02000080ff3e0000000000000000000000000101_0200 2 0x8000 (refused 6 40) (refused 7 22) (refused 6 40)
    ∷ in_record ipv6 Simple 24 0xffff_02000080ff3e0000000000000000000000000101_0200 8 0x0000006e_00000014 accepted (refused 7 22) (refused 7 22)
    ∷ in_record ipv6 NullRegister 24 0xffff_02000080ff3e0000000000000000000000000101_0200 0 0 accepted (refused 7 22) (refused 7 22)
    ∷ in_record ipv6 RegisterStop 24 0xffff_02000080ff3e0000000000000000000000000101_0200 0 0 accepted (refused 7 22) accepted
    -- entries: the second of two asserts, with R=0 and with R=1; the second of two pairs
    ∷ in_entries (plain ipv6) lan 64 0x02000000_ff3e0000000000000000000000000101_20010db8000000000000000000000001_0000006e_00000014_02000000_ff3e0000000000000000000000000102 8 0x0000006e_00000014 accepted (refused 7 1) (refused 7 1)
    ∷ in_entries (simple ipv6) lan 64 0x02000000_ff3e0000000000000000000000000101_20010db8000000000000000000000001_0000006e_00000014_02000000_ff3e0000000000000000000000000102 8 0x0000006e_00000014 accepted (refused 7 1) (refused 7 1)
    ∷ in_entries (simple ipv6) lan 64 0x02000000_ff3e0000000000000000000000000101_20010db8000000000000000000000001_0000006e_00000014_02000000_ff3e0000000000000000000000000102 8 0x8000006e_00000014 accepted (refused 7 1) accepted
    ∷ in_entries (aggregated ipv6) lan 64 0x02000000_ff3e0000000000000000000000000101_20010db8000000000000000000000001_0000006e_00000014_02000000_ff3e0000000000000000000000000102 8 0x0000006e_00000014 accepted (refused 7 1) (refused 7 1)
    ∷ in_entries (aggregated ipv6) lan 64 0x02000000_ff3e0000000000000000000000000101_20010db8000000000000000000000001_0000006e_00000014_02000000_ff3e0000000000000000000000000102 8 0x8000006e_00000014 accepted (refused 7 1) accepted
    ∷ in_entries (null_register ipv6) to_rp 56 0x02000000_ff3e0000000000000000000000000101_20010db8000000000000000000000001_02000000_ff3e0000000000000000000000000102 0 0 accepted (refused 7 1) (refused 7 1)
    ∷ in_entries (register_stop ipv6) to_rp 56 0x02000000_ff3e0000000000000000000000000101_20010db8000000000000000000000001_02000000_ff3e0000000000000000000000000102 0 0 accepted (refused 7 1) accepted
    -- a list that is not whole is 10 first
    ∷ in_entries (register_stop ipv6) to_rp 56 0x02000000_ff3e0000000000000000000000000101_20010db8000000000000000000000001_02000000_ff3e0000000000000000000000000102 1 0 (refused 10 0) (refused 10 0) (refused 10 0)
    ∷ []

-- ---- both

-- whether a field that may hold 0, and one that may not, takes all addresses of a list, or none
unfoldable pub all_taken : Family → Bool → List ℕ → Bool
all_taken f taken [] = true
all_taken f true (a ∷ l) = may_be_source f true a && may_be_source f false a && all_taken f true l
all_taken f false (a ∷ l) = not (may_be_source f true a) && not (may_be_source f false a) && all_taken f false l

unfoldable pub all_right : Bool
all_right =
    allPlaces real shut_out places && allPlaces real6 shut_out6 places6
    && all_taken ipv4 true real
    && all_taken ipv4 false shut_out
    && all_taken ipv6 true real6
    && all_taken ipv6 false shut_out6
    && may_be_source ipv6 true 0
    && not (may_be_source ipv6 false 0)
