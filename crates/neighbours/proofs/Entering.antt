-- A valid table after a row is entered and after an address is forgotten, test by test.
--     enter_old, enter_full, enter_new      the row is replaced; 11; the row goes last
--     leave_old, leave_none                 the address is forgotten; 12
-- Assumes nothing.
use mathlib.Core.Path.{◌≡◌, sym, ◌∙◌}
use mathlib.Core.Bool.{true, false}
use Prim.Native.Nat.{ℕ, ◌+◌, ◌-◌, ◌≤◌, ◌<◌}
use native.Mathlib.Omega.{arith}
use borrow.Author.Tests.{le-leb, lt-leb}
use lib.ListN.{length, set}
use Rattle.format.specs.Outcome.{refuses, refuse_if, reason_number, ◌>>◌}
use Rattle.format.specs.Family.{Family}
use Rattle.neighbours.specs.declared.Change.TheVariants.{Replaced, Appended, Forgotten}
use Rattle.neighbours.specs.declared.Change.{Change}
use Rattle.neighbours.specs.declared.Neighbour.{Neighbour}
use Rattle.neighbours.specs.declared.Table.{Table}
use Rattle.neighbours.specs.Rows.{address_of, most, no_row, place, has, used}
use Rattle.neighbours.specs.Hearing.{entering, leaving}
use Rattle.neighbours.specs.Answers.{done_by, done_of, table_after, Ordered, table_by, Does}
use Rattle.neighbours.proofs.Rows.{place_all, has_place, has_none}
use Rattle.neighbours.proofs.Tables.{Valid}
use Rattle.neighbours.proofs.Gaps.{gap_start, gap_end}
use Rattle.neighbours.proofs.Changes.{long, replaces, appends, closes}
use Rattle.format.specs.declared.Refusal.{Refusal}
use Rattle.format.specs.declared.Reason.TheVariants.{TableFull, Absent}

-- a row stored, with none moved
module _ (n : Neighbour) (at k : ℕ) (c : Change) where
  stored : (t : Table) → length t.rows ≡ most → at < most → table_by t (record { from = at; to = at; row = n; count = k; change = c }) ≡ record { rows = set t.rows at n; count = k }
  unfolding table_by
  stored t full h =
      let e = gap_end n (gap_start t.rows at no_row (omega (arith, full))) in
      λ j. record { rows = sym e j; count = k }

  in_place : at < most → Ordered (record { from = at; to = at; row = n; count = k; change = c })
  in_place h = record { order = omega arith; inside = h }

module _ {f : Family} (t : Table) (full : length t.rows ≡ most) (v : Valid f t) where
  used_is : length (used t) ≡ t.count
  used_is = long t full v

  module _ (n : Neighbour) (at : ℕ) (e : at ≡ place (address_of n) (used t)) where
    pub enter_old : at < t.count → Does t (entering n (used t)) (record { from = at; to = at; row = n; count = t.count; change = Replaced })
    unfolding entering table_after done_by done_of
    enter_old h =
        let y : has (address_of n) (used t) ≡ true = has_place (address_of n) (used t) (omega (arith, used_is)) in
        let w : at < most = omega (arith, v.within) in
        let x = stored n at t.count Replaced t full w in
        record { table = x ∙ (rw y (replaces t full v n at (omega arith) h)); order = in_place n at t.count Replaced w; done = rw y }

    module _ (h : t.count ≤ at) where
      absent : has (address_of n) (used t) ≡ false
      absent = has_none (address_of n) (used t) (omega (arith, used_is))

      pub enter_full : {r : Refusal} → t.count ≡ most → r ≡ record { reason = TableFull; place = 0 } → entering n (used t) ≡ refuses (reason_number r.reason) r.place
      unfolding entering refuse_if ◌>>◌
      enter_full c g = rw (g, absent, le-leb most (length (used t)) (omega (arith, used_is)))

      pub enter_new : t.count < most → Does t (entering n (used t)) (record { from = at; to = at; row = n; count = at + 1; change = Appended })
      unfolding entering refuse_if ◌>>◌ table_after done_by done_of
      enter_new c =
          let f : at ≡ t.count = omega (arith, used_is, place_all (address_of n) (used t)) in
          let m = lt-leb most (length (used t)) (omega (arith, used_is)) in
          let w : at < most = omega arith in
          let x = stored n at (at + 1) Appended t full w in
          record { table = x ∙ (rw (absent, m) (appends t full v n at (omega arith) h f c)); order = in_place n at (at + 1) Appended w; done = rw (absent, m) }

  module _ (a : ℕ) (at : ℕ) (e : at ≡ place a (used t)) where
    pub leave_old : {n : Neighbour} → at < t.count
        → n ≡ no_row
        → Does t (leaving a (used t)) (record { from = at; to = t.count - 1; row = n; count = t.count - 1; change = Forgotten })
    unfolding leaving refuse_if ◌>>◌ table_after table_by done_by done_of
    leave_old h f =
        let y : has a (used t) ≡ true = has_place a (used t) (omega (arith, used_is)) in
        let w : t.count - 1 < most = omega (arith, v.within) in
        record { table = rw (y, f) (closes t full v a at (omega arith) h); order = record { order = omega arith; inside = w }; done = rw y }

    pub leave_none : {r : Refusal} → t.count ≤ at → r ≡ record { reason = Absent; place = 0 } → leaving a (used t) ≡ refuses (reason_number r.reason) r.place
    unfolding leaving refuse_if ◌>>◌
    leave_none h g = rw (g, has_none a (used t) (omega (arith, used_is)))
