-- What is counted on the way through a text's lines. Assumes nothing.
use Rattle.std.specs.Prelude.{ℕ, ◌+◌, ◌≤◌, List, length}
use Rattle.rules.specs.Lists.{one_if, sum_of}
use Rattle.rules.specs.Text.{Row}
use Rattle.tables.specs.Layout.{belongs, counted, valued}
use Rattle.tables.specs.Fill.{lettered}
use Rattle.search.specs.declared.Counts.{Counts}

-- the counts of some rows: how many belong to each table, how many values they have, how many they are
unfoldable pub counts_of : List Row → Counts
counts_of rs =
    record {
      types = counted 1 rs;
      fields = counted 2 rs;
      args = counted 3 rs;
      has = counted 4 rs;
      takes = counted 5 rs;
      members = counted 6 rs;
      nodes = counted 7 rs;
      edges = counted 8 rs;
      properties = counted 9 rs;
      values = sum_of valued rs;
      lines = length rs;
    }

-- the counts with one row more, by its letter and its values
unfoldable pub counts_with : Counts → ℕ → ℕ → Counts
counts_with c l vs =
    record {
      types = c.types + one_if (belongs 1 (lettered l));
      fields = c.fields + one_if (belongs 2 (lettered l));
      args = c.args + one_if (belongs 3 (lettered l));
      has = c.has + one_if (belongs 4 (lettered l));
      takes = c.takes + one_if (belongs 5 (lettered l));
      members = c.members + one_if (belongs 6 (lettered l));
      nodes = c.nodes + one_if (belongs 7 (lettered l));
      edges = c.edges + one_if (belongs 8 (lettered l));
      properties = c.properties + one_if (belongs 9 (lettered l));
      values = c.values + vs;
      lines = c.lines + 1;
    }

-- no count is above n
pub record Within (n : ℕ) (c : Counts) : Type 0 where
  pub types : c.types ≤ n
  pub fields : c.fields ≤ n
  pub args : c.args ≤ n
  pub has : c.has ≤ n
  pub takes : c.takes ≤ n
  pub members : c.members ≤ n
  pub nodes : c.nodes ≤ n
  pub edges : c.edges ≤ n
  pub properties : c.properties ≤ n
  pub values : c.values ≤ n
  pub lines : c.lines ≤ n
