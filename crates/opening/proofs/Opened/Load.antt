-- A load record that is read is sound: each of its fields is judged by itself.
use Prim.Native.Nat.{ℕ, ◌^◌, ◌<◌}
use mathlib.Core.Path.{◌≡◌, refl}
use lib.Dec.{eqb}
use Rattle.rules.specs.Breach.{refuse}
use Rattle.rules.specs.Limits.{load_maps, most_customers, most_minutes, never}
use Rattle.rules.specs.Table.{no_gate_fault, size_fault}
use Rattle.rules.proofs.Kept.{absent_none, unless-none}
use Rattle.reading.specs.Reader.{byte, word}
use Rattle.reading.proofs.Held.{Gives, gives_then, gives-judged, gives-return, gives-cond, gives-fields}
use Rattle.load_record.specs.Load.{loss_gate, size, customers, minutes, load_field, load}
use Rattle.study.specs.declared.Load.{Load}
use Rattle.study.specs.Absent.{absent_load}
use Rattle.soundness.specs.Sound.{SoundLoad}

module _ (gates : ℕ) where
  start : SoundLoad gates absent_load
  unfolding refuse
  start = record { gate = absent_none never (no_gate_fault gates never); customers = refl; minutes = refl }

  gate-sound : (l : Load) → SoundLoad gates l → Gives (loss_gate gates l) (SoundLoad gates)
  unfolding loss_gate
  gate-sound l s =
      gives-judged byte (no_gate_fault gates) _
      (λ n kept. record { gate = unless-none never n (no_gate_fault gates n) kept; customers = s.customers; minutes = s.minutes })

  size-sound : (most : ℕ) → Gives (size most) (λ (n : ℕ). size_fault most n ≡ 0)
  unfolding size
  size-sound most = gives-judged word (size_fault most) (λ n. n) (λ n kept. kept)

  customers-sound : (l : Load) → SoundLoad gates l → Gives (customers l) (SoundLoad gates)
  unfolding customers
  customers-sound l s =
      gives_then (size-sound most_customers) (λ n kept. gives-return (record { gate = s.gate; customers = kept; minutes = s.minutes }))

  minutes-sound : (l : Load) → SoundLoad gates l → Gives (minutes l) (SoundLoad gates)
  unfolding minutes
  minutes-sound l s =
      gives_then (size-sound most_minutes) (λ n kept. gives-return (record { gate = s.gate; customers = s.customers; minutes = kept }))

  field-sound : (k : ℕ) (l : Load) → 2 ^ k < load_maps → SoundLoad gates l → Gives (load_field gates k l) (SoundLoad gates)
  unfolding load_field
  field-sound k l meant s =
      gives-cond (eqb k 0) (λ e. gate-sound l s) (λ e. gives-cond (eqb k 1) (λ e. customers-sound l s) (λ e. minutes-sound l s))

  pub load-sound : Gives (load gates) (SoundLoad gates)
  unfolding load
  load-sound = gives-fields (λ (k : ℕ). SoundLoad gates) load_maps (load_field gates) absent_load start field-sound (λ k l s. s)
