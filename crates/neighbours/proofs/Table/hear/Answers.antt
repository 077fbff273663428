-- `neighbours::Table::hear` meets its contract where it refuses: the table comes back as it was.
-- Assumes nothing.
use Rattle.format.specs.Family.{family_of}
use Rattle.neighbours.specs.Hearing.{hearing}
use Rattle.neighbours.proofs.Called.{refused}
use Rattle.neighbours.proofs.Table.hear.Goals as goal

pub returns-in-Err-clause-table : goal.returns-in-Err-clause-table
returns-in-Err-clause-table c =
    let a = c.args in
    rw (← c.is_ipv6.ensures) (refused a.self (hearing (family_of c.is_ipv6.result) a.self a.address a.said) c.heard.ensures c.in-Err.is).0

pub returns-in-Err-clause-done : goal.returns-in-Err-clause-done
returns-in-Err-clause-done c =
    let a = c.args in
    rw (← c.is_ipv6.ensures) (refused a.self (hearing (family_of c.is_ipv6.result) a.self a.address a.said) c.heard.ensures c.in-Err.is).1
