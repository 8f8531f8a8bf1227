-- The worked examples of document 01 that are marked with a star, as rows of data, and the one claim about them: each row is what the calls answer and
-- write, by the definitions that their contracts cite.
use Rattle.std.specs.Prelude.{ℕ, ◌-◌, ◌<◌, ◌≤◌, ◌≡◌, List, [], ◌∷◌, ◌++◌, map, length, get_or, replicate}
use Rattle.std.proofs.Math.Option.{Option, none, some}
use Rattle.lists.specs.Rows.{put, joined}
use Rattle.units.specs.One.{one}
use Rattle.rules.specs.Limits.{most_components, most_gates, most_loads, most_tests, most_gate_inputs, never}
use Rattle.study.specs.declared.Component.{Component}
use Rattle.study.specs.declared.Gate.{Gate}
use Rattle.study.specs.declared.Load.{Load}
use Rattle.study.specs.declared.Study.{Study}
use Rattle.study.specs.Zero.{zero_component, zero_gate, zero_load}
use Rattle.units.specs.declared.bounds.Enclosure.{Enclosure}
use Rattle.answers.specs.declared.figures.Caidi.{Caidi}
use Rattle.answers.specs.declared.figures.Caidi.TheVariants.{Bounds, NotStated}
use Rattle.entries.specs.Entries.{blank_mark, class_places, entry}
use Rattle.opening.specs.Opening.{opened, refused_opening}
use Rattle.meaning.specs.Meaning.{Meaning, by_gates}
use Rattle.path_calls.specs.Bounds.{paths_bounded, lower_of_paths, upper_of_paths, classes_bounded, lower_of_classes, upper_of_classes}
use Rattle.path_calls.specs.Listing.{paths_listed, buffer_listed}
use Rattle.loss_calls.specs.Bounds.{load_bounded}
use Rattle.loss_calls.specs.Figures.{figures_given}
use Rattle.std.specs.Prelude.{Ok, Err}
use Rattle.answers.specs.Answers.{FiguresAnswer, StudyAnswer, finished}

-- ---- studies in few words

abbrev two_states : ℕ → Component
two_states p1 = record { states = 2; p1 = p1; p2 = 0; p3 = 0 }

abbrev four_states : ℕ → ℕ → ℕ → Component
four_states p1 p2 p3 = record { states = 4; p1 = p1; p2 = p2; p3 = p3 }

-- places in use, and zeros behind them
unfoldable pub padded : {A : Type 0} → ℕ → A → List A → List A
padded size z l = l ++ replicate (size - length l) z

-- a test: the component, and the mask of its states
pub record Test : Type 0 where
  pub component : ℕ
  pub mask : ℕ

abbrev test : ℕ → ℕ → Test
test component mask = record { component = component; mask = mask }

-- a gate over tests alone
unfoldable pub votes : ℕ → List Test → Gate
unfolding padded
votes threshold tests =
    record {
      threshold = threshold;
      tests = length tests;
      component = padded most_tests 0 (map (λ (t : Test). t.component) tests);
      mask = padded most_tests 0 (map (λ (t : Test). t.mask) tests);
      gates = 0;
      input = replicate most_gate_inputs 0;
    }

abbrev lost_by : ℕ → ℕ → ℕ → Load
lost_by gate customers minutes = record { gate = gate; customers = customers; minutes = minutes }

-- the answer that holds a study with these records
unfoldable pub opens : List Component → List Gate → List Load → StudyAnswer
unfolding padded zero_gate
opens cs gs ls =
    record {
      outcome = finished;
      study =
          record {
            components = length cs;
            gates = length gs;
            loads = length ls;
            component = padded most_components zero_component cs;
            gate = padded most_gates zero_gate gs;
            load = padded most_loads zero_load ls;
          };
    }

-- ---- the rows

-- a lower and an upper bound
abbrev between : ℕ → ℕ → Enclosure
between lower upper = record { lower = lower; upper = upper }

-- both the same
abbrev pub at : ℕ → Enclosure
at n = between n n

-- what the paper gives of a study that opens: its paths, the bounds of each, the bounds of each class at its place and of each load, and the figures
pub record Results : Type 0 where
  pub paths : List (List ℕ)
  pub lower : List ℕ
  pub upper : List ℕ
  pub class_lower : List ℕ
  pub class_upper : List ℕ
  pub loads : List Enclosure
  pub figures : FiguresAnswer

-- an example: its bytes, what opening them answers, and what the paper gives of the study
pub record Example : Type 0 where
  pub bytes : List ℕ
  pub opening : StudyAnswer
  pub results : Option Results

-- an example of opening alone
abbrev example : List ℕ → StudyAnswer → Example
example bytes opening = record { bytes = bytes; opening = opening; results = none }

abbrev lowers : List Enclosure → List ℕ
lowers bounds = map (λ (b : Enclosure). b.lower) bounds

abbrev uppers : List Enclosure → List ℕ
uppers bounds = map (λ (b : Enclosure). b.upper) bounds

-- the paths of a study, the bounds of paths, of classes from 0 on and of loads, and the figures; every other class has no path
unfoldable pub results_are : List (List ℕ) → List Enclosure → List Enclosure → List Enclosure → FiguresAnswer → Results
unfolding padded
results_are paths bounds classes loads figures =
    record {
      paths = paths;
      lower = lowers bounds;
      upper = uppers bounds;
      class_lower = padded class_places 0 (lowers classes);
      class_upper = padded class_places 0 (uppers classes);
      loads = loads;
      figures = figures;
    }

-- an example with the results of its study
unfoldable pub listing : List ℕ → StudyAnswer → List (List ℕ) → List Enclosure → List Enclosure → List Enclosure → FiguresAnswer → Example
unfolding results_are
listing bytes opening paths bounds classes loads figures =
    record { bytes = bytes; opening = opening; results = some (results_are paths bounds classes loads figures) }

-- the figures, and their refusal where there are no customers
abbrev pub figures_are : Enclosure → Enclosure → Caidi → Enclosure → FiguresAnswer
figures_are saifi saidi caidi maifi = Ok (record { saifi = saifi; saidi = saidi; caidi = caidi; maifi = maifi })

abbrev pub no_customers : FiguresAnswer
no_customers = Err 19

-- component 0 in state 1, by itself
abbrev failed0 : Gate
failed0 = votes 1 (test 0 2 ∷ [])

-- a path of probability 0 is listed like any other
abbrev zero_listed : List (List ℕ)
zero_listed = entry (0 ∷ []) 0 ∷ entry (1 ∷ []) 1 ∷ []

-- the study of case A
unfoldable pub case_a_opens : StudyAnswer
unfolding votes opens
case_a_opens =
    opens (two_states 100_000_000 ∷ two_states 200_000_000 ∷ []) (votes 1 (test 0 2 ∷ test 1 2 ∷ []) ∷ []) (lost_by 0 100 60 ∷ [])

-- a load without a loss gate, and a component that never fails
unfoldable pub no_loss_gate_opens : StudyAnswer
unfolding votes opens
no_loss_gate_opens = opens (two_states 0 ∷ []) (failed0 ∷ []) (lost_by never 0 0 ∷ [])

abbrev pub examples : List Example
examples =
    -- A: two components, lost when either fails
    listing (2 ∷ 1 ∷ 1
    ∷ 0x02 ∷ 0x00 ∷ 0xE1 ∷ 0xF5 ∷ 0x05
    ∷ 0x02 ∷ 0x00 ∷ 0xC2 ∷ 0xEB ∷ 0x0B
    ∷ 0x02 ∷ 2 ∷ 0 ∷ 2 ∷ 1 ∷ 2
    ∷ 0x07 ∷ 0 ∷ 0x64 ∷ 0 ∷ 0 ∷ 0 ∷ 0x3C ∷ 0 ∷ 0 ∷ 0 ∷ [])
    case_a_opens
    (entry (0 ∷ 0 ∷ []) 0 ∷ entry (0 ∷ 1 ∷ []) 1 ∷ entry (1 ∷ blank_mark ∷ []) 1 ∷ [])
    (at 720_000_000 ∷ at 180_000_000 ∷ at 100_000_000 ∷ [])
    (at 720_000_000 ∷ at 280_000_000 ∷ [])
    (at 280_000_000 ∷ [])
    (figures_are (at 280_000_000) (at 16_800_000_000) (Bounds (at 60)) (at 0))
    -- B: two components, lost when both fail
    ∷ listing (2 ∷ 1 ∷ 1
    ∷ 0x02 ∷ 0x55 ∷ 0x43 ∷ 0xDE ∷ 0x13
    ∷ 0x02 ∷ 0x55 ∷ 0x43 ∷ 0xDE ∷ 0x13
    ∷ 0x03 ∷ 2 ∷ 2 ∷ 0 ∷ 2 ∷ 1 ∷ 2
    ∷ 0x01 ∷ 0 ∷ [])
    (opens (two_states 333_333_333 ∷ two_states 333_333_333 ∷ []) (votes 2 (test 0 2 ∷ test 1 2 ∷ []) ∷ []) (lost_by 0 0 0 ∷ []))
    (entry (0 ∷ blank_mark ∷ []) 0 ∷ entry (1 ∷ 0 ∷ []) 0 ∷ entry (1 ∷ 1 ∷ []) 1 ∷ [])
    (at 666_666_667 ∷ between 222_222_222 222_222_223 ∷ between 111_111_110 111_111_111 ∷ [])
    (between 888_888_889 888_888_890 ∷ between 111_111_110 111_111_111 ∷ [])
    (between 111_111_110 111_111_111 ∷ [])
    no_customers
    -- C: a load without a gate
    ∷ listing (1 ∷ 1 ∷ 1 ∷ 0x00 ∷ 0x02 ∷ 1 ∷ 0 ∷ 2 ∷ 0x00 ∷ [])
    no_loss_gate_opens
    (entry (blank_mark ∷ []) 0 ∷ [])
    (at one ∷ [])
    (at one ∷ [])
    (at 0 ∷ [])
    no_customers
    -- D: a full mask
    ∷ listing (1 ∷ 1 ∷ 1 ∷ 0x00 ∷ 0x02 ∷ 1 ∷ 0 ∷ 3 ∷ 0x01 ∷ 0 ∷ [])
    (opens (two_states 0 ∷ []) (votes 1 (test 0 3 ∷ []) ∷ []) (lost_by 0 0 0 ∷ []))
    (entry (blank_mark ∷ []) 1 ∷ [])
    (at one ∷ [])
    (at 0 ∷ at one ∷ [])
    (at one ∷ [])
    no_customers
    -- E: three components, lost when the first and the last fail
    ∷ listing (3 ∷ 1 ∷ 1 ∷ 0x00 ∷ 0x00 ∷ 0x00 ∷ 0x03 ∷ 2 ∷ 2 ∷ 0 ∷ 2 ∷ 2 ∷ 2 ∷ 0x01 ∷ 0 ∷ [])
    (opens (two_states 0 ∷ two_states 0 ∷ two_states 0 ∷ []) (votes 2 (test 0 2 ∷ test 2 2 ∷ []) ∷ []) (lost_by 0 0 0 ∷ []))
    (entry (0 ∷ blank_mark ∷ blank_mark ∷ []) 0 ∷ entry (1 ∷ blank_mark ∷ 0 ∷ []) 0 ∷ entry (1 ∷ blank_mark ∷ 1 ∷ []) 1 ∷ [])
    (at one ∷ at 0 ∷ at 0 ∷ [])
    (at one ∷ at 0 ∷ [])
    (at 0 ∷ [])
    no_customers
    -- F: six components of four states, and a seventh of two
    ∷ listing (6 ∷ 1 ∷ 1
    ∷ 0x01 ∷ 4 ∷ 0x01 ∷ 4 ∷ 0x01 ∷ 4 ∷ 0x01 ∷ 4 ∷ 0x01 ∷ 4 ∷ 0x01 ∷ 4
    ∷ 0x02 ∷ 1 ∷ 0 ∷ 2 ∷ 0x01 ∷ 0 ∷ [])
    (opens (replicate 6 (four_states 0 0 0)) (failed0 ∷ []) (lost_by 0 0 0 ∷ []))
    (entry (0 ∷ replicate 5 blank_mark) 0 ∷ entry (1 ∷ replicate 5 blank_mark) 1 ∷ entry (2 ∷ replicate 5 blank_mark) 0 ∷ entry (3 ∷ replicate 5 blank_mark) 0 ∷ [])
    (at one ∷ at 0 ∷ at 0 ∷ at 0 ∷ [])
    (at one ∷ at 0 ∷ [])
    (at 0 ∷ [])
    no_customers
    ∷ example (7 ∷ 1 ∷ 1
    ∷ 0x01 ∷ 4 ∷ 0x01 ∷ 4 ∷ 0x01 ∷ 4 ∷ 0x01 ∷ 4 ∷ 0x01 ∷ 4 ∷ 0x01 ∷ 4 ∷ 0x00
    ∷ 0x02 ∷ 1 ∷ 0 ∷ 2 ∷ 0x01 ∷ 0 ∷ [])
    (refused_opening 7)
    -- G: states 1 to 3 that sum to one, and to one unit more
    ∷ listing (1 ∷ 1 ∷ 1
    ∷ 0x0F ∷ 4 ∷ 0x00 ∷ 0x65 ∷ 0xCD ∷ 0x1D ∷ 0x00 ∷ 0xA3 ∷ 0xE1 ∷ 0x11 ∷ 0x00 ∷ 0xC2 ∷ 0xEB ∷ 0x0B
    ∷ 0x02 ∷ 1 ∷ 0 ∷ 2 ∷ 0x01 ∷ 0 ∷ [])
    (opens (four_states 500_000_000 300_000_000 200_000_000 ∷ []) (failed0 ∷ []) (lost_by 0 0 0 ∷ []))
    (entry (0 ∷ []) 0 ∷ entry (1 ∷ []) 1 ∷ entry (2 ∷ []) 0 ∷ entry (3 ∷ []) 0 ∷ [])
    (at 0 ∷ at 500_000_000 ∷ at 300_000_000 ∷ at 200_000_000 ∷ [])
    (at 500_000_000 ∷ at 500_000_000 ∷ [])
    (at 500_000_000 ∷ [])
    no_customers
    ∷ example (1 ∷ 1 ∷ 1
    ∷ 0x0F ∷ 4 ∷ 0x00 ∷ 0x65 ∷ 0xCD ∷ 0x1D ∷ 0x00 ∷ 0xA3 ∷ 0xE1 ∷ 0x11 ∷ 0x01 ∷ 0xC2 ∷ 0xEB ∷ 0x0B
    ∷ 0x02 ∷ 1 ∷ 0 ∷ 2 ∷ 0x01 ∷ 0 ∷ [])
    (refused_opening 6)
    -- H: no bytes; first byte 13; the single byte 1
    ∷ example [] (refused_opening 1)
    ∷ example (13 ∷ []) (refused_opening 2)
    ∷ example (1 ∷ []) (refused_opening 1)
    -- I: threshold 3 over two inputs
    ∷ example (2 ∷ 1 ∷ 1 ∷ 0x00 ∷ 0x00 ∷ 0x03 ∷ 3 ∷ 2 ∷ 0 ∷ 2 ∷ 1 ∷ 2 ∷ 0x01 ∷ 0 ∷ []) (refused_opening 12)
    -- J: threshold 2 over one test that stands twice, and counts once
    ∷ example (1 ∷ 1 ∷ 1 ∷ 0x00 ∷ 0x03 ∷ 2 ∷ 2 ∷ 0 ∷ 2 ∷ 0 ∷ 2 ∷ 0x01 ∷ 0 ∷ []) (refused_opening 12)
    -- K: state 1 at 0, and a load of one customer that is lost in it; it states no minutes, and so is short
    ∷ listing (1 ∷ 1 ∷ 1 ∷ 0x00 ∷ 0x02 ∷ 1 ∷ 0 ∷ 2 ∷ 0x03 ∷ 0 ∷ 1 ∷ 0 ∷ 0 ∷ 0 ∷ [])
    (opens (two_states 0 ∷ []) (failed0 ∷ []) (lost_by 0 1 0 ∷ []))
    zero_listed
    (at one ∷ at 0 ∷ [])
    (at one ∷ at 0 ∷ [])
    (at 0 ∷ [])
    (figures_are (at 0) (at 0) NotStated (at 0))
    ∷ []

-- ---- the claim

-- the call for the list, with any buffer that has the room, answers the number of these paths and writes them
pub record ListIs (m : Meaning) (t : Study) (paths : List (List ℕ)) : Type 0 where
  pub answer : (buffer : List ℕ) → length (joined paths) ≤ length buffer → paths_listed m t buffer ≡ Ok (record { paths = length paths })
  pub written : (buffer : List ℕ) → length (joined paths) ≤ length buffer → buffer_listed m t buffer ≡ put buffer 0 (joined paths)

-- a call for bounds, with any two slices that have the room, answers so and writes these
pub record PairIs {A : Type 0} (answers : List ℕ → List ℕ → A) (left right : List ℕ → List ℕ → List ℕ) (answer : A) (need : ℕ) (lows highs : List ℕ)
    : Type 0 where
  pub answered : (lower upper : List ℕ) → need ≤ length lower → need ≤ length upper → answers lower upper ≡ answer
  pub lower_written : (lower upper : List ℕ) → need ≤ length lower → need ≤ length upper → left lower upper ≡ put lower 0 lows
  pub upper_written : (lower upper : List ℕ) → need ≤ length lower → need ≤ length upper → right lower upper ≡ put upper 0 highs

-- the calls on a study, by its gates or by a drawn tree, give the results
pub record Gives (m : Meaning) (t : Study) (r : Results) : Type 0 where
  pub list : ListIs m t r.paths
  pub paths : PairIs (paths_bounded m t) (lower_of_paths m t) (upper_of_paths m t) (Ok (length r.paths)) (length r.paths) r.lower r.upper
  pub classes : PairIs (classes_bounded m t) (lower_of_classes m t) (upper_of_classes m t) finished class_places r.class_lower r.class_upper
  pub loads : (j : ℕ) → j < t.loads → load_bounded m t j ≡ Ok (get_or r.loads j (at 0))
  pub each_load : length r.loads ≡ t.loads
  pub figures : figures_given m t ≡ r.figures

abbrev pub ResultsHold : Study → Option Results → Type 0
ResultsHold t none = Unit {0}
ResultsHold t (some r) = Gives by_gates t r

-- a row holds: opening its bytes answers so, and the calls on the study that was opened give its results
pub record RowHolds (e : Example) : Type 0 where
  pub opening : opened e.bytes ≡ e.opening
  pub results : ResultsHold e.opening.study e.results

abbrev pub EachHolds : List Example → Type 0
EachHolds [] = Unit {0}
EachHolds (e ∷ es) = RowHolds e × EachHolds es

-- Each row holds.
abbrev pub WorkedExamples : Type 0
WorkedExamples = EachHolds examples
