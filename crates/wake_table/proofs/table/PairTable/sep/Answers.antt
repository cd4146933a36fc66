-- An entry of a table is in range and keeps the triangle inequality.
use Rattle.wake_table.proofs.NoneFound.{table_range, table_triangle}
use Rattle.wake_table.proofs.table.PairTable.sep.Goals as goal

pub returns : goal.returns
returns c =
    rw (← c.self.view_is) (
    record {
      value = c.entry.ensures;
      range = rw c.entry.ensures (table_range c.self.inside.rows c.args.leader c.args.follower c.self.invariant);
      triangle = λ via. rw c.entry.ensures
          (table_triangle c.self.inside.rows c.args.leader via c.args.follower c.self.invariant);
      whole = record {
        entries = λ a b. table_range c.self.inside.rows a b c.self.invariant;
        triangle = λ a b d. table_triangle c.self.inside.rows a b d c.self.invariant;
      };
    }
    )
