-- The block of a model: its list may be written, a walk may begin there, and what they bring is what the model's paths bring.
use Rattle.std.proofs.Common.{ℕ, ◌≡◌, Bool, List, refl, arith}
use Rattle.units.specs.One.{one}
use Rattle.event_tree.specs.declared.block.ClassBlock.{ClassBlock}
use Rattle.paths.specs.Blocks.{Listable}
use Rattle.paths.specs.Paths.{paths}
use Rattle.model.specs.Good.{Good}
use Rattle.model.specs.Model.{Model, paths_of, probability_table}
use Rattle.model.proofs.Classes.{good-listable}
use Rattle.model.proofs.Table.{table-most}
use Rattle.totals.specs.Places.{Adds}
use Rattle.totals.specs.Walk.{Reached, brings_all}
use Rattle.totals.proofs.Added.{adds-alike}
use Rattle.study_model.specs.InHand.{BlockOf}
use Rattle.study_model.specs.Totals.{paths_bring}

module _ {m : Model} {block : ClassBlock} (own : BlockOf m block) where
  pub block-listable : Good m → Listable block.counts.now block.classes.now
  block-listable good = rw (own.counts, own.classes) (good-listable m good)

  pub block-paths : paths block.counts.now block.classes.now ≡ paths_of m
  unfolding paths_of
  block-paths = rw (own.counts, own.classes) refl

  pub block-reached : {probabilities : List ℕ} → Good m → probabilities ≡ probability_table m → Reached block.counts.now probabilities 0 one one
  block-reached good is-table =
      record {
        table = record { each = λ k. rw is-table (table-most m good k) };
        few = omega (arith, (block-listable good).components);
        low_most = omega arith;
        high_most = omega arith;
      }

  brings-are : {probabilities : List ℕ} → probabilities ≡ probability_table m → (loadwise : Bool) (rounding place : ℕ)
      → brings_all loadwise rounding probabilities block.counts.now block.classes.now place ≡ paths_bring loadwise rounding m place
  unfolding brings_all paths_bring
  brings-are is-table loadwise rounding place = rw (block-paths, is-table, own.counts) refl

  pub block-brings : {probabilities : List ℕ} → probabilities ≡ probability_table m → (loadwise : Bool) (rounding : ℕ) {most places : ℕ} {d d' : List ℕ}
      → Adds most places (brings_all loadwise rounding probabilities block.counts.now block.classes.now) d d'
      → Adds most places (paths_bring loadwise rounding m) d d'
  block-brings is-table loadwise rounding adds = adds-alike (λ p. brings-are is-table loadwise rounding p) adds
