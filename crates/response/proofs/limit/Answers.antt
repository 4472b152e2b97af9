-- `response::limit` meets its contract. Assumes nothing.
use mathlib.Core.Path.{sym, ◌∙◌}
use Rattle.response.proofs.Telling.{limited, unlimited}
use Rattle.response.proofs.limit.Goals as goal

pub returns-then-fits : goal.returns-then-fits
returns-then-fits c = unlimited _ _ _ (sym c.fits.ensures ∙ c.if-fits.true)

pub returns : goal.returns
returns c = limited _ _ _ (sym c.fits.ensures ∙ c.if-fits.false)
