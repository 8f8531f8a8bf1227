-- Drawn trees are refused by the first breach from the left: the laws of the crate that reads them.
use Rattle.drawn_tree.proofs.FirstBreach
use Rattle.drawn_tree.proofs.Judged
use Rattle.drawn_tree.proofs.ReadsBack
use Rattle.demands.specs.DrawnTrees.{DrawnReads}

pub drawn-reads : DrawnReads
drawn-reads =
    record {
      is_first_breach = Rattle.drawn_tree.proofs.FirstBreach.drawn-reads;
      numbers = Rattle.drawn_tree.proofs.Judged.drawn-rows;
      bytes = Rattle.drawn_tree.proofs.ReadsBack.reads-back;
    }
