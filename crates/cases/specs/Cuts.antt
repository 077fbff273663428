-- Messages and an attribute cut after every octet, worked out by hand from 01 and E3 (02): each field is so cut at its first octet, at its last and
-- at every one between. A row has the octets whole, and for every length from 0 on what comes of it, now and by 01's rule for places.
--     Span                     what some lengths in turn come to: accepted, or refused by a number at a place
--     Cut, cuts, cuts6         the family and the path, the kind, the body of a message, sealed anew at each length; the spans, those by 01's rule last
--     attribute_cuts            the same of an attribute
--     holds, is_cut             whether spans hold of a reader, and a row of the definitions
-- That every row holds is one computation, in proofs/Cuts.antt. Assumes nothing: these are definitions.
use Rattle.std.specs.Prelude.{ℕ, zero, suc, ◌+◌, Bool, true, false, ◌&&◌, List, [], ◌∷◌, length, take, eqb}
use Rattle.octets.specs.Octets.{be}
use Rattle.format.specs.Outcome.{Outcome, gives, refuses}
use Rattle.format.specs.Path.{nowhere}
use Rattle.format.specs.Family.{Family, ipv4, ipv6}
use Rattle.format.specs.Header.{message}
use Rattle.format.specs.Reader.{from}
use Rattle.format.specs.Unpacking.{unpack_asserts, unpack_pairs}
use Rattle.places.specs.Rules.{by_record, placed, asserts_body_by, pairs_body_by}
use Rattle.places.specs.Places.{unpack_by, read_hello_by}
use Rattle.format.specs.declared.Path.{Path}
use Rattle.format.specs.declared.Kind.{Kind}
use Rattle.format.specs.declared.Kind.TheVariants.{Hello, Assert, Simple, Aggregated, NullRegister, RegisterStop}
use Rattle.hello.specs.Hello.{read_hello}
use Rattle.attributes.specs.Attribute.{attribute}
use Rattle.cases.specs.Paths.{lan, to_rp}
use Rattle.cases.specs.Faults.{refused_with}

-- one length that is accepted, or so many that are refused by a number at a place
pub data Span : Type 0 where
  accepted : Span
  refused : ℕ → ℕ → ℕ → Span

unfoldable pub is_given : {A : Type 0} → Outcome A → Bool
is_given (gives a) = true
is_given (refuses n p) = false

module _ {A : Type 0} (read : List ℕ → Outcome A) (o : List ℕ) where
  -- so many lengths from k on
  unfoldable pub allRefused : ℕ → ℕ → ℕ → ℕ → Bool
  allRefused k zero n p = true
  allRefused k (suc m) n p = refused_with n p (read (take k o)) && allRefused (suc k) m n p

  -- from the length k on; the last is the whole
  unfoldable pub holds : ℕ → List Span → Bool
  holds k [] = eqb k (suc (length o))
  holds k (accepted ∷ l) = is_given (read (take k o)) && holds (suc k) l
  holds k (refused m n p ∷ l) = allRefused k m n p && holds (k + m) l

pub data Cut : Type 0 where
  cut : Family → Path → Kind → ℕ → ℕ → List Span → List Span → Cut

-- now, and by 01's rule
unfoldable pub both_hold : {A : Type 0} → (List ℕ → Outcome A) → (List ℕ → Outcome A) → List ℕ → List Span → List Span → Bool
both_hold read before o l m = holds read o 0 l && holds before o 0 m

module _ (f : Family) (p : Path) where
  unfoldable pub ofAsserts : Kind → List ℕ → List Span → List Span → Bool
  ofAsserts k = both_hold (λ b. unpack_asserts f p (message f p k b)) (λ b. unpack_by (asserts_body_by by_record f) f p (message f p k b))

  unfoldable pub ofPairs : Kind → List ℕ → List Span → List Span → Bool
  ofPairs k = both_hold (λ b. unpack_pairs f p (message f p k b)) (λ b. unpack_by (pairs_body_by by_record f) f p (message f p k b))

  unfoldable pub of_hello : List ℕ → List Span → List Span → Bool
  of_hello = both_hold (λ b. read_hello f p (message f p Hello b)) (λ b. read_hello_by by_record f p (message f p Hello b))

unfoldable pub is_cut : Cut → Bool
is_cut (cut f p Hello n o l m) = of_hello f p (be n o) l m
is_cut (cut f p Assert n o l m) = ofAsserts f p Assert (be n o) l m
is_cut (cut f p Simple n o l m) = ofAsserts f p Simple (be n o) l m
is_cut (cut f p Aggregated n o l m) = ofAsserts f p Aggregated (be n o) l m
is_cut (cut f p NullRegister n o l m) = ofPairs f p NullRegister (be n o) l m
is_cut (cut f p RegisterStop n o l m) = ofPairs f p RegisterStop (be n o) l m

unfoldable pub all_cuts : List Cut → Bool
all_cuts [] = true
all_cuts (c ∷ l) = is_cut c && all_cuts l

-- the body begins at octet 4 of its message
unfoldable pub cuts : List Cut
cuts =
    -- a plain assert: group, source, R with preference, metric; then an octet that follows
    cut ipv4 nowhere Assert 23 0x01000020e8010101_01000a000001_0000006e_00000014_00
    (refused 8 6 4 ∷ refused 6 6 12 ∷ refused 4 6 18 ∷ refused 4 6 22 ∷ accepted ∷ refused 1 6 26 ∷ [])
    (refused 22 6 4 ∷ accepted ∷ refused 1 6 26 ∷ [])
    -- a simple message: Zero, Reserved, no record; two records, the second with R=1 and source 0
    ∷ cut ipv4 nowhere Simple 48 0x00_000000_01000020e8010101_01000a000001_0000006e_00000014_01000020e8010102_010000000000_8000006e_00000014
    (refused 1 6 4 ∷ refused 3 6 5 ∷ refused 1 5 8 ∷ refused 7 6 8 ∷ refused 6 6 16 ∷ refused 4 6 22 ∷ refused 4 6 26 ∷ accepted
    ∷ refused 7 6 30 ∷ refused 6 6 38 ∷ refused 4 6 44 ∷ refused 4 6 48 ∷ accepted ∷ [])
    (refused 4 6 4 ∷ refused 1 5 8 ∷ refused 21 6 8 ∷ accepted ∷ refused 21 6 30 ∷ accepted ∷ [])
    -- a simple message whose record has R=0 and source 0: found once the R word is there, at 26 octets, and placed at the source
    ∷ cut ipv4 nowhere Simple 26 0x00_000000_01000020e8010101_010000000000_0000006e_00000014
    (refused 1 6 4 ∷ refused 3 6 5 ∷ refused 1 5 8 ∷ refused 7 6 8 ∷ refused 6 6 16 ∷ refused 4 6 22 ∷ refused 5 7 16 ∷ [])
    (refused 4 6 4 ∷ refused 1 5 8 ∷ refused 17 6 8 ∷ refused 5 7 8 ∷ [])
    -- a source aggregated record: R with preference, metric, source, number of groups, 2 reserved, two groups
    ∷ cut ipv4 nowhere Aggregated 38 0x00_000000_0000006e_00000014_01000a000001_0002_0000_01000020e8010101_01000020e8010102
    (refused 1 6 4 ∷ refused 3 6 5 ∷ refused 1 5 8 ∷ refused 3 6 8 ∷ refused 4 6 12 ∷ refused 6 6 16 ∷ refused 2 6 22 ∷ refused 2 6 24
    ∷ refused 8 6 26 ∷ refused 8 6 34 ∷ accepted ∷ [])
    (refused 4 6 4 ∷ refused 1 5 8 ∷ refused 33 6 8 ∷ accepted ∷ [])
    -- one of one group, then an RP aggregated record of two group records, with two sources and with none
    ∷ cut ipv4 nowhere Aggregated 78 0x00_000000_0000006e_00000014_01000a000001_0001_0000_01000020e8010101_8000006e_00000014_0002_0000_01000020e8010102_0002_0000_01000a000001_010000000000_01000020e8010103_0000_0000
    (refused 1 6 4 ∷ refused 3 6 5 ∷ refused 1 5 8 ∷ refused 3 6 8 ∷ refused 4 6 12 ∷ refused 6 6 16 ∷ refused 2 6 22 ∷ refused 2 6 24
    ∷ refused 8 6 26 ∷ accepted
    ∷ refused 3 6 34 ∷ refused 4 6 38 ∷ refused 2 6 42 ∷ refused 2 6 44
    ∷ refused 8 6 46 ∷ refused 2 6 54 ∷ refused 2 6 56 ∷ refused 6 6 58 ∷ refused 6 6 64
    ∷ refused 8 6 70 ∷ refused 2 6 78 ∷ refused 2 6 80 ∷ accepted ∷ [])
    (refused 4 6 4 ∷ refused 1 5 8 ∷ refused 25 6 8 ∷ accepted ∷ refused 47 6 34 ∷ accepted ∷ [])
    -- pairs: no record; group, source; the same again
    ∷ cut ipv4 nowhere NullRegister 28 0x01000020e8010101_01000a000001_01000020e8010102_01000a000002
    (refused 1 5 4 ∷ refused 7 6 4 ∷ refused 6 6 12 ∷ accepted ∷ refused 7 6 18 ∷ refused 6 6 26 ∷ accepted ∷ [])
    (refused 1 5 4 ∷ refused 13 6 4 ∷ accepted ∷ refused 13 6 18 ∷ accepted ∷ [])
    ∷ cut ipv4 nowhere RegisterStop 28 0x01000020e8010101_010000000000_01000020e8010102_01000a000002
    (refused 1 5 4 ∷ refused 7 6 4 ∷ refused 6 6 12 ∷ accepted ∷ refused 7 6 18 ∷ refused 6 6 26 ∷ accepted ∷ [])
    (refused 1 5 4 ∷ refused 13 6 4 ∷ accepted ∷ refused 13 6 18 ∷ accepted ∷ [])
    -- a Hello: holdtime, an option that is not known, priority, the packing capability; each type, length and value
    ∷ cut ipv4 nowhere Hello 25 0x0001_0002_0069_0063_0003_aabbcc_0013_0004_00000005_0028_0000
    (accepted ∷ refused 1 6 4 ∷ refused 2 6 6 ∷ refused 2 6 8
    ∷ accepted ∷ refused 1 6 10 ∷ refused 2 6 12 ∷ refused 3 6 14
    ∷ accepted ∷ refused 1 6 17 ∷ refused 2 6 19 ∷ refused 4 6 21
    ∷ accepted ∷ refused 1 6 25 ∷ refused 2 6 27 ∷ accepted ∷ [])
    (accepted ∷ refused 5 6 4 ∷ accepted ∷ refused 6 6 10 ∷ accepted ∷ refused 7 6 17 ∷ accepted ∷ refused 3 6 25 ∷ accepted ∷ [])
    ∷ []

unfoldable pub cuts6 : List Cut
cuts6 =
    -- a plain assert: group, source, R with preference, metric; then an octet that follows
    cut ipv6 lan Assert 47 0x02000080ff3e0000000000000000000000000101_020020010db8000000000000000000000001_0000006e_00000014_00
    (refused 20 6 4 ∷ refused 18 6 24 ∷ refused 4 6 42 ∷ refused 4 6 46 ∷ accepted ∷ refused 1 6 50 ∷ [])
    (refused 46 6 4 ∷ accepted ∷ refused 1 6 50 ∷ [])
    -- a simple message: Zero, Reserved, no record; two records, the second with R=1 and source 0
    ∷ cut ipv6 lan Simple 96 0x00_000000_02000080ff3e0000000000000000000000000101_020020010db8000000000000000000000001_0000006e_00000014_02000080ff3e0000000000000000000000000102_020000000000000000000000000000000000_8000006e_00000014
    (refused 1 6 4 ∷ refused 3 6 5 ∷ refused 1 5 8 ∷ refused 19 6 8 ∷ refused 18 6 28 ∷ refused 4 6 46 ∷ refused 4 6 50 ∷ accepted ∷ refused 19 6 54 ∷ refused 18 6 74 ∷ refused 4 6 92 ∷ refused 4 6 96 ∷ accepted ∷ [])
    (refused 4 6 4 ∷ refused 1 5 8 ∷ refused 45 6 8 ∷ accepted ∷ refused 45 6 54 ∷ accepted ∷ [])
    -- a simple message whose record has R=0 and source 0: found once the R word is there, at 50 octets, and placed at the source
    ∷ cut ipv6 lan Simple 50 0x00_000000_02000080ff3e0000000000000000000000000101_020000000000000000000000000000000000_0000006e_00000014
    (refused 1 6 4 ∷ refused 3 6 5 ∷ refused 1 5 8 ∷ refused 19 6 8 ∷ refused 18 6 28 ∷ refused 4 6 46 ∷ refused 5 7 28 ∷ [])
    (refused 4 6 4 ∷ refused 1 5 8 ∷ refused 41 6 8 ∷ refused 5 7 8 ∷ [])
    -- a source aggregated record of two groups, then an RP aggregated record: p=0 twice, and two sources
    ∷ cut ipv6 lan Aggregated 194 0x00_000000_0000006e_00000014_020020010db8000000000000000000000001_0002_0000_02000080ff3e0000000000000000000000000101_02000080ff3e0000000000000000000000000102_8000006e_00000014_0003_0000_02000080ff3e0000000000000000000000000103_0000_0000_02000080ff3e0000000000000000000000000103_0000_0000_02000080ff3e0000000000000000000000000104_0002_0000_020020010db8000000000000000000000001_020000000000000000000000000000000000
    (refused 1 6 4 ∷ refused 3 6 5 ∷ refused 1 5 8 ∷ refused 3 6 8 ∷ refused 4 6 12 ∷ refused 18 6 16 ∷ refused 2 6 34 ∷ refused 2 6 36 ∷ refused 20 6 38 ∷ refused 20 6 58 ∷ accepted ∷ refused 3 6 78 ∷ refused 4 6 82 ∷ refused 2 6 86 ∷ refused 2 6 88 ∷ refused 20 6 90 ∷ refused 2 6 110 ∷ refused 2 6 112 ∷ refused 20 6 114 ∷ refused 2 6 134 ∷ refused 2 6 136 ∷ refused 20 6 138 ∷ refused 2 6 158 ∷ refused 2 6 160 ∷ refused 18 6 162 ∷ refused 18 6 180 ∷ accepted ∷ [])
    (refused 4 6 4 ∷ refused 1 5 8 ∷ refused 69 6 8 ∷ accepted ∷ refused 119 6 78 ∷ accepted ∷ [])
    -- pairs: no record; group, source; the same again
    ∷ cut ipv6 to_rp NullRegister 76 0x02000080ff3e0000000000000000000000000101_020020010db8000000000000000000000001_02000080ff3e0000000000000000000000000102_020020010db8000000000000000000000002
    (refused 1 5 4 ∷ refused 19 6 4 ∷ refused 18 6 24 ∷ accepted ∷ refused 19 6 42 ∷ refused 18 6 62 ∷ accepted ∷ [])
    (refused 1 5 4 ∷ refused 37 6 4 ∷ accepted ∷ refused 37 6 42 ∷ accepted ∷ [])
    ∷ cut ipv6 to_rp RegisterStop 76 0x02000080ff3e0000000000000000000000000101_020000000000000000000000000000000000_02000080ff3e0000000000000000000000000102_020020010db8000000000000000000000002
    (refused 1 5 4 ∷ refused 19 6 4 ∷ refused 18 6 24 ∷ accepted ∷ refused 19 6 42 ∷ refused 18 6 62 ∷ accepted ∷ [])
    (refused 1 5 4 ∷ refused 37 6 4 ∷ accepted ∷ refused 37 6 42 ∷ accepted ∷ [])
    -- a Hello, as in IPv4
    ∷ cut ipv6 lan Hello 25 0x0001_0002_0069_0063_0003_aabbcc_0013_0004_00000005_0028_0000
    (accepted ∷ refused 1 6 4 ∷ refused 2 6 6 ∷ refused 2 6 8 ∷ accepted ∷ refused 1 6 10 ∷ refused 2 6 12 ∷ refused 3 6 14 ∷ accepted ∷ refused 1 6 17 ∷ refused 2 6 19 ∷ refused 4 6 21 ∷ accepted ∷ refused 1 6 25 ∷ refused 2 6 27 ∷ accepted ∷ [])
    (accepted ∷ refused 5 6 4 ∷ accepted ∷ refused 6 6 10 ∷ accepted ∷ refused 7 6 17 ∷ accepted ∷ refused 3 6 25 ∷ accepted ∷ [])
    ∷ []

-- at its place 0: the first octet, length, MTU, flags, options; the eight values; three octets that are ignored, by an unallocated bit
unfoldable pub attribute_cuts : List Span
attribute_cuts =
    refused 1 6 0 ∷ refused 1 6 1 ∷ refused 2 6 2 ∷ refused 2 6 4 ∷ refused 2 6 6
    ∷ refused 4 6 8 ∷ refused 4 6 12 ∷ refused 2 6 16 ∷ refused 2 6 18 ∷ refused 1 6 20 ∷ refused 1 6 21 ∷ refused 1 6 22 ∷ refused 1 6 23
    ∷ refused 3 6 24 ∷ accepted ∷ []

unfoldable pub attribute_holds : Bool
attribute_holds =
    both_hold (from 0 attribute) (from 0 (placed by_record attribute))
    (be 27 0x03_19_05dc_0010_ff01_00000001_00000002_0064_0065_01_02_03_04_aabbcc) attribute_cuts (refused 27 6 0 ∷ accepted ∷ [])
