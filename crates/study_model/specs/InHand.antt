-- What the code holds of a model in hand: the model itself, the block of its classes, and the list of its paths.
use Rattle.std.specs.Prelude.{◌≡◌, length}
use Rattle.entries.specs.Entries.{entries_of}
use Rattle.event_tree.specs.declared.block.ClassBlock.{ClassBlock}
use Rattle.probability.specs.declared.listed.ListedPaths.{ListedPaths}
use Rattle.model.specs.InHand.{model_held}
use Rattle.model.specs.Model.{Model, components, classes_of, paths_of, probability_table}
use Rattle.study_model.specs.declared.in_hand.ModelInHand.{ModelInHand}

-- the model that it makes with the table of classes beside it
abbrev pub model_in : ModelInHand → Model
model_in hand = model_held hand.held.now hand.classes.now

-- a block that is a model's: its state counts, and the classes of all its joint states
pub record BlockOf (m : Model) (block : ClassBlock) : Type 0 where
  pub counts : block.counts.now ≡ m.counts
  pub classes : block.classes.now ≡ classes_of m

-- a list that is a model's: its paths, beside the probabilities of its components
pub record PathsOf (m : Model) (listed : ListedPaths) : Type 0 where
  pub probabilities : listed.probabilities.now ≡ probability_table m
  pub components : listed.components ≡ components m
  pub paths : listed.paths ≡ length (paths_of m)
  pub entries : entries_of listed.components listed.paths listed.list.now ≡ paths_of m
