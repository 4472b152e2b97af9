-- `sodgravel::answer` meets its contract: the outcome is that of `respond`, and every area is cleared at the length it had. Assumes nothing.
use Rattle.judge.specs.Texts.{lent}
use Rattle.sodgravel.proofs.Clearing.{cleared_as}
use Rattle.sodgravel.proofs.answer.Goals as goal

pub returns : goal.returns
unfolding lent
returns c =
    record {
      value = c.respond-o.ensures.is;
      out_after = c.respond-o.ensures.left;
      a_after = cleared_as _ _ _ c.clear_all.ensures.a_after c.respond-o.auto.a;
      g_after = cleared_as _ _ _ c.clear_all.ensures.g_after c.respond-o.auto.g;
      p_after = cleared_as _ _ _ c.clear_all.ensures.p_after c.respond-o.auto.p;
      v_after = cleared_as _ _ _ c.clear_all.ensures.v_after c.respond-o.auto.v;
      ix_after = cleared_as _ _ _ c.clear_all.ensures.ix_after c.respond-o.auto.ix;
      q_after = cleared_as _ _ _ c.clear_all.ensures.q_after c.respond-o.auto.q;
      m_after = cleared_as _ _ _ c.clear_all.ensures.m_after c.respond-o.auto.m;
    }
