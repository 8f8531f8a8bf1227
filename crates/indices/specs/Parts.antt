-- Which loads take part in which sum: the losses of a load are momentary or sustained, by its restore time.
use Rattle.std.specs.Prelude.{Bool, true, not}
use Rattle.rules.specs.Limits.{momentary}
use Rattle.study.specs.declared.Load.{Load}

-- a short load: its losses are momentary. One without a restore time is among them, at 0 minutes. These take part in
-- MAIFI's sum over P
unfoldable pub short : Load → Bool
unfolding momentary
short l = momentary l.minutes

-- the others: these take part in the sums over P of SAIFI, SAIDI and CAIDI
unfoldable pub sustained : Load → Bool
unfolding short
sustained l = not (short l)

-- all loads: their customers are served, however short their losses are, and take part in the sum of C
abbrev pub every : Load → Bool
every l = true
