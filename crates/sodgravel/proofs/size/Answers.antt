-- `sodgravel::size` meets its contract: the outcome is that of `measure`, and every area is cleared at the length it had. Assumes nothing.
use Rattle.judge.specs.Texts.{lent}
use Rattle.sodgravel.proofs.Clearing.{cleared_as}
use Rattle.sodgravel.proofs.size.Goals as goal

pub returns : goal.returns
unfolding lent
returns c =
    record {
      value = c.measure-o.ensures.is;
      a_after = cleared_as _ _ _ c.clear_all.ensures.a_after c.measure-o.auto.a;
      g_after = cleared_as _ _ _ c.clear_all.ensures.g_after c.measure-o.auto.g;
      p_after = cleared_as _ _ _ c.clear_all.ensures.p_after c.measure-o.auto.p;
      v_after = cleared_as _ _ _ c.clear_all.ensures.v_after c.measure-o.auto.v;
      ix_after = cleared_as _ _ _ c.clear_all.ensures.ix_after c.measure-o.auto.ix;
      q_after = cleared_as _ _ _ c.clear_all.ensures.q_after c.measure-o.auto.q;
      m_after = cleared_as _ _ _ c.clear_all.ensures.m_after c.measure-o.auto.m;
    }
