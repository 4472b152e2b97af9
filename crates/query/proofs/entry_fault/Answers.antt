-- `query::entry_fault` meets its contract. One law for each check. Assumes nothing.
use Rattle.query.proofs.Verdicts.{number-laws}
use Rattle.query.proofs.entry_fault.Goals as goal

pub returns-in-Depths : goal.returns-in-Depths
returns-in-Depths c = search number-laws

pub returns-in-Numbers : goal.returns-in-Numbers
returns-in-Numbers c = search number-laws

pub returns-in-Validity : goal.returns-in-Validity
returns-in-Validity c = search number-laws
