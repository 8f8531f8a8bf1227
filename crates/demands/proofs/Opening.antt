-- What opening keeps, by what it refuses and how much of its bytes it reads: the laws stand beside opening.
use Rattle.opening.proofs.FirstBreach.{is_first_breach as breach-law}
use Rattle.opening.proofs.Longest.{longest-opens}
use Rattle.opening.proofs.Opened.Study.{opened-sound as sound-law}
use Rattle.opening.proofs.Taken.Study.{opening-rows, longest-study as longest-law}
use Rattle.demands.specs.Demand1.{OpenedSound, FirstBreach, OpeningNumbers, LongestStudy}

pub opened-sound : OpenedSound
opened-sound = sound-law

pub is_first_breach : FirstBreach
is_first_breach = breach-law

pub opening-numbers : OpeningNumbers
opening-numbers = opening-rows

pub longest-study : LongestStudy
longest-study = record { law = longest-law; reached = longest-opens }
