-- `sodgravel::clear_all` meets its contract: each area is cleared by its own call. Assumes nothing.
use Rattle.sodgravel.specs.Cleared.{cleared}
use Rattle.sodgravel.proofs.clear_all.Goals as goal

pub returns : goal.returns
unfolding cleared
returns c =
    record {
      a_after = c.clear.ensures;
      g_after = c.clear-2.ensures;
      p_after = c.clear-3.ensures;
      v_after = c.clear-4.ensures;
      ix_after = c.clear-5.ensures;
      q_after = c.clear-6.ensures;
      m_after = c.clear_rows.ensures;
    }
