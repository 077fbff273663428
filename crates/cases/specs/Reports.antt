-- Files of messages worked out by hand (02, E4), with their reports.
--     Row, reports       the octets of a file, and what is counted in it
--     totals_in           messages and records by kind, as a list
--     IsRight            what it is for a row to hold of the definition
-- That every row holds is computed in proofs/Reports.antt. Assumes nothing: these are definitions.
use Rattle.std.specs.Prelude.{ℕ, ◌≡◌, Bool, true, false, List, [], ◌∷◌, take, drop}
use Rattle.octets.specs.Octets.{be, ◌&◌}
use Rattle.counters.specs.declared.ByKind.{ByKind}
use Rattle.reporting.specs.Report.{report_of}

unfoldable pub totals_in : ByKind → List ℕ
totals_in t =
    t.hello.messages ∷ t.hello.records
    ∷ t.assert.messages ∷ t.assert.records
    ∷ t.simple.messages ∷ t.simple.records
    ∷ t.aggregated.messages ∷ t.aggregated.records
    ∷ t.null_register.messages ∷ t.null_register.records
    ∷ t.register_stop.messages ∷ t.register_stop.records
    ∷ []

pub data Row : Type 0 where
  -- messages and records by kind; refusals by number, from 0 on; the mean; whether the file is whole
  reports : List ℕ → List ℕ → List ℕ → ℕ → ℕ → Bool → Row

unfoldable pub IsRight : Row → Type 0
IsRight (reports o accepted refused n d whole) =
    (totals_in (report_of o).tally.accepted ≡ accepted)
    × ((report_of o).tally.refused ≡ refused)
    × ((report_of o).mean ≡ record { numerator = n; denominator = d })
    × ((report_of o).whole ≡ whole)

abbrev nothing : List ℕ
nothing = 0 ∷ 0 ∷ 0 ∷ 0 ∷ 0 ∷ 0 ∷ 0 ∷ 0 ∷ 0 ∷ 0 ∷ 0 ∷ 0 ∷ []

abbrev never : List ℕ
never = 0 ∷ 0 ∷ 0 ∷ 0 ∷ 0 ∷ 0 ∷ 0 ∷ 0 ∷ 0 ∷ 0 ∷ 0 ∷ 0 ∷ 0 ∷ 0 ∷ 0 ∷ []

-- each with its length before it: one message of every kind, two of them with two records
abbrev accepted : List ℕ
accepted =
    be 12 0x000a_2000_dfde_0001_0002_001e
    & be 28 0x001a_2500_5551_01000020_e3a1a2a3_0100_0ab1b2b3_8c1d2e3f_c1c2c3c4
    & be 32 0x001e_2501_e558_00000000_01000020_e8010101_0100_0a000001_0000006e_00000014
    & be 44 0x002a_2503_3166_00000000_0a0b0c0d_11121314_0100_0a151617_0002_0000_01000020_e8313233_01000020_ef414243
    & be 34 0x0020_2d00_3e61_01000020_e6212223_0100_0a242526_01000020_e7313233_0100_0a343536
    & be 34 0x0020_2d10_16fb_01000020_e9414243_0100_0a444546_01000020_ea515253_0100_00000000

-- one for each number: a length 0, version 1, example 2, a Register, no pair, a pair that is cut, source 0, and a holdtime of one octet
abbrev refused : List ℕ
refused =
    be 2 0x0000
    & be 6 0x0004_1000_ffff
    & be 32 0x001e_2501_e558_00000000_01000020_e8010101_0100_0a000001_0000006e_00000015
    & be 6 0x0004_2100_deff
    & be 6 0x0004_2d00_d2ff
    & be 28 0x001a_2d00_f3b7_01000020_e8010101_0100_0a000001_01000020_e8010102
    & be 54 0x0034_2501_f9b2_00000000_01000020_e8010101_0100_0a000001_0000006e_00000014_01000020_e8010102_0100_00000000_0000006e_00000014
    & be 10 0x0008_2000_dffd_0001_0001

unfoldable pub reported : List Row
reported =
    reports [] nothing never 0 1 true
    ∷ reports (0 ∷ []) nothing never 0 1 false
    ∷ reports (be 2 0x0000) nothing (0 ∷ 1 ∷ 0 ∷ 0 ∷ 0 ∷ 0 ∷ 0 ∷ 0 ∷ 0 ∷ 0 ∷ 0 ∷ 0 ∷ 0 ∷ 0 ∷ 0 ∷ []) 0 1 true
    ∷ reports (be 6 0x0005_2000_dfff) nothing never 0 1 false
    -- 1 + 2 + 2 + 2 records in four packed messages
    ∷ reports accepted (1 ∷ 0 ∷ 1 ∷ 1 ∷ 1 ∷ 1 ∷ 1 ∷ 2 ∷ 1 ∷ 2 ∷ 1 ∷ 2 ∷ []) never 7 4 true
    ∷ reports refused nothing (0 ∷ 1 ∷ 1 ∷ 1 ∷ 1 ∷ 1 ∷ 1 ∷ 1 ∷ 0 ∷ 0 ∷ 0 ∷ 0 ∷ 0 ∷ 1 ∷ 0 ∷ []) 0 1 true
    -- the last message is cut, by one octet and by all but one; the last length is cut
    ∷ reports (take 183 accepted) (1 ∷ 0 ∷ 1 ∷ 1 ∷ 1 ∷ 1 ∷ 1 ∷ 2 ∷ 1 ∷ 2 ∷ 0 ∷ 0 ∷ []) never 5 3 false
    ∷ reports (take 153 accepted) (1 ∷ 0 ∷ 1 ∷ 1 ∷ 1 ∷ 1 ∷ 1 ∷ 2 ∷ 1 ∷ 2 ∷ 0 ∷ 0 ∷ []) never 5 3 false
    ∷ reports (take 151 accepted) (1 ∷ 0 ∷ 1 ∷ 1 ∷ 1 ∷ 1 ∷ 1 ∷ 2 ∷ 1 ∷ 2 ∷ 0 ∷ 0 ∷ []) never 5 3 false
    -- there the file is whole again; without both messages of pairs three records in two packed messages are left
    ∷ reports (take 150 accepted) (1 ∷ 0 ∷ 1 ∷ 1 ∷ 1 ∷ 1 ∷ 1 ∷ 2 ∷ 1 ∷ 2 ∷ 0 ∷ 0 ∷ []) never 5 3 true
    ∷ reports (take 116 accepted) (1 ∷ 0 ∷ 1 ∷ 1 ∷ 1 ∷ 1 ∷ 1 ∷ 2 ∷ 0 ∷ 0 ∷ 0 ∷ 0 ∷ []) never 3 2 true
    -- the mean in lowest terms: six records in three packed messages
    ∷ reports (drop 72 accepted) (0 ∷ 0 ∷ 0 ∷ 0 ∷ 0 ∷ 0 ∷ 1 ∷ 2 ∷ 1 ∷ 2 ∷ 1 ∷ 2 ∷ []) never 2 1 true
    ∷ []
