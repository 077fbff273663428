-- `sheet::read::read_sheet` meets its contract: what the check answered says which way the call goes.
-- Assumes nothing.
use mathlib.Core.Path.{refl}
use Rattle.format.specs.Family.{is_ipv6}
use Rattle.sections.specs.Layout.{form_of}
use Rattle.sheet.proofs.Gathered.{checked_gives, checked_refuses, passed, read_refused, read_checked_lem}
use Rattle.sheet.proofs.read.read_sheet.Goals as goal

pub deliver-requires : goal.deliver-requires
deliver-requires c =
    (passed (is_ipv6 c.args.family) (form_of c.args.o.now) c.args.o.now _ (checked_gives c.args.family c.args.o.now c.check_sheet.ensures c.in-Ok.is)).1

pub returns-in-Err : goal.returns-in-Err
returns-in-Err c =
    let e = read_refused c.args.family c.args.o.now c.args.asserts.now c.args.pairs.now (checked_refuses c.args.family c.args.o.now c.check_sheet.ensures c.in-Err.is) in
    record {
      found = rw e c.refused.ensures.found;
      table = rw e c.refused.ensures.table;
      asserts = rw e refl;
      pairs = rw e refl;
    }

pub returns-in-Ok : goal.returns-in-Ok
returns-in-Ok c =
    let e = read_checked_lem c.args.family c.args.o.now c.args.asserts.now c.args.pairs.now (checked_gives c.args.family c.args.o.now c.check_sheet.ensures c.in-Ok.is) in
    record {
      found = rw e c.deliver.ensures.found;
      table = rw e c.deliver.ensures.table;
      asserts = rw e c.deliver.ensures.asserts;
      pairs = rw e c.deliver.ensures.pairs;
    }
