-- What is known of two slices where they have no breach, and what they are left with where they have one.
use Prim.Native.Nat.{ℕ, ◌≤◌}
use mathlib.Core.Path.{◌≡◌, sym, ◌∙◌}
use mathlib.Core.List.{List}
use Rattle.lists.specs.Rows.{put}
use Rattle.rules.specs.Table.{room_fault}
use Rattle.rules.proofs.Kept.{both-kept}
use Rattle.rules.proofs.Rows.{room-kept}
use Rattle.answers.proofs.Answered.{answered-done, answered-refused, filled-done, filled-refused}
use Rattle.evaluation.specs.Rooms.{pair_fault, PairPut}

-- each has the room
pub record PairRoom (need lower upper : ℕ) : Type 0 where
  pub in_lower : need ≤ lower
  pub in_upper : need ≤ upper

pub pair-room : {need lower upper : ℕ} → pair_fault need lower upper ≡ 0 → PairRoom need lower upper
unfolding pair_fault
pair-room {need} {lower} {upper} none =
    let both = both-kept (room_fault need lower) (room_fault need upper) none in
    record { in_lower = room-kept need lower both.left; in_upper = room-kept need upper both.right }

module _ {A : Type 0} (refused : ℕ → A) {breach : ℕ} (done : A) (lowers uppers lower upper : List ℕ) where
  pub pair-refused : {found : ℕ} → found ≡ breach → (found ≡ 0 → ⊥) → PairPut refused breach done lowers uppers lower upper lower upper (refused found)
  pair-refused {found} is some =
      let broken : breach ≡ 0 → ⊥ = λ none. some (is ∙ none) in
      record {
        answer_is = (λ i. refused (is i)) ∙ sym (answered-refused refused breach done broken);
        lower_is = sym (filled-refused breach lowers lower broken);
        upper_is = sym (filled-refused breach uppers upper broken);
      }

  pub pair-done : {lower' upper' : List ℕ} → breach ≡ 0 → lower' ≡ put lower 0 lowers → upper' ≡ put upper 0 uppers
      → PairPut refused breach done lowers uppers lower upper lower' upper' done
  pair-done none low high =
      record {
        answer_is = sym (answered-done refused breach done none);
        lower_is = low ∙ sym (filled-done breach lowers lower none);
        upper_is = high ∙ sym (filled-done breach uppers upper none);
      }
