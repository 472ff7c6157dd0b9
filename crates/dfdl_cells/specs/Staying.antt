-- Mirror for the prover: equations stay as what was laid grows.
use Rattle.std.specs.Prelude.{◌≡◌, ◌≢◌, ◌⊎◌, ℕ, zero, suc, ◌+◌, ◌*◌, ◌-◌, ◌/◌, ◌==◌, ◌<◌, ◌≤◌, nat_lt, Bool, true, false, not, ◌||◌, if◌then◌else◌, List, [], ◌∷◌, ◌++◌, length, take, drop, slice_get, All, Option, None, Some, Result, Ok, Err, refl}
use Rattle.std.specs.List.{list_any}
use Rattle.std.proofs.Common.{◌∙◌, ap, sym, subst, arith, inl, inr}
use Rattle.std.proofs.Math.Path.{fun_ext}
use Rattle.std.proofs.lemmas.List.{take-append-le, drop-append-le, length-drop}
use Rattle.std.proofs.Common.{le_refl, lt_of_lt_of_le}
use Rattle.std.proofs.lemmas.Bool.{cases_lt}
use Rattle.std.proofs.lemmas.List.Elements.{All-nil, All-head, All-tail, All-cons, All-take, All-drop}
use Rattle.std.proofs.lemmas.Option.{slice_get_past}
use Rattle.dfdl_delims.specs.Lists.{Opened}
use Rattle.dfdl_separators.specs.declared.policy.SeparatorPosition.{SeparatorPosition}
use Rattle.dfdl_terms.specs.declared.prefix.Prefix.{Prefix}
use Rattle.dfdl_suspend.specs.Asks.{Asks, Ask, Is, Fails, waiting}
use Rattle.dfdl_suspend.specs.declared.known.Held.{Held}
use Rattle.dfdl_suspend.specs.declared.known.Held.TheVariants as held
use Rattle.dfdl_writings.specs.declared.fault.Unwritten.{Unwritten}
use Rattle.dfdl_writings.specs.declared.form.Written.{Written}
use Rattle.dfdl_cells.specs.Books.{Book}
use Rattle.dfdl_cells.specs.Equations.{bits_of, constant_of, content_length_by, equation_in, equation_of, equation_or, is_number}
use Rattle.dfdl_cells.specs.Growth
use Rattle.dfdl_cells.specs.Growth.{Grows, HasEarlier, HasGrown, HasSlot, HasSlots, HaveSlots, AreSteps, IsAround, IsBefore, IsBound, IsComplex, IsContent, IsEarlier, IsMark, IsNamed, IsPiece, IsPlace, IsSettled, IsStands, IsStep, IsTold, IsToldIf}
use Rattle.dfdl_cells.specs.Lengths.{cause_of, length_or, size_in}
use Rattle.dfdl_cells.specs.Pieces as pieces
use Rattle.dfdl_cells.specs.Places.{aligned, asked_begin, asked_bit, asked_place, asked_start, begin_by, complex_at, further, is_aligned, led, marked, marked_in, passed, passed_all, passed_in, steps_in, steps_to}
use Rattle.dfdl_cells.specs.Plans.{Plan, form_of, writing_of}
use Rattle.dfdl_cells.specs.Separators as separators
use Rattle.dfdl_cells.specs.Separators.{is_earlier, is_long, stands, steps_of, unaligned}
use Rattle.dfdl_cells.specs.Values.{Told, asked_number, asked_value, go_with, number_in, told_by}
use Rattle.dfdl_cells.specs.declared.cell.Cell.{Cell}
use Rattle.dfdl_cells.specs.declared.cell.Cell.TheVariants as cell_of
use Rattle.dfdl_cells.specs.declared.complex.Complex.{Complex}
use Rattle.dfdl_cells.specs.declared.piece.Bound.{Bound}
use Rattle.dfdl_cells.specs.declared.piece.Earlier.{Earlier}
use Rattle.dfdl_cells.specs.declared.piece.Earlier.TheVariants as earlier
use Rattle.dfdl_cells.specs.declared.piece.Piece.{Piece}
use Rattle.dfdl_cells.specs.declared.piece.Piece.TheVariants as piece
use Rattle.dfdl_cells.specs.declared.piece.SlotEnd.{SlotEnd}
use Rattle.dfdl_cells.specs.declared.piece.Stands.{Stands}
use Rattle.dfdl_cells.specs.declared.piece.Stands.TheVariants as stands_by
use Rattle.dfdl_cells.specs.declared.step.Mark.{Mark}
use Rattle.dfdl_cells.specs.declared.step.Place.{Place}
use Rattle.dfdl_cells.specs.declared.step.Step.{Step}
use Rattle.dfdl_cells.specs.declared.step.Step.TheVariants as step

-- so many elements of a list, from one on, as far as it has them, stay where it grows
part_stays : {X : Type 0} (xs more : List X) (first count : ℕ) → first + count ≤ length xs → take count (drop first (xs ++ more)) ≡ take count (drop first xs)
part_stays xs more first count within =
    ap (take count) (drop-append-le first xs more (omega arith))
    ∙ take-append-le count (drop first xs) more (let e = length-drop first xs in omega arith)

record Found {X : Type 0} (xs : List X) (i : ℕ) : Type 0 where
  one : X
  is : slice_get xs i ≡ Some one

found : {X : Type 0} (xs : List X) (i : ℕ) → i < length xs → Found xs i
found [] i low = absurd (omega arith)
found (x ∷ xs) zero low = record { one = x; is = refl }
found (x ∷ xs) (suc i) low = let rest : Found xs i = found xs i (omega arith) in record { one = rest.one; is = rest.is }

none_some : {X : Type 0} {x : X} → ◌≡◌ {A = Option X} None (Some x) → ⊥
none_some is = cc

module _ (old new : Book) (grows : Grows old new) where
  told_stays : (number : ℕ) → IsTold old.cells number → slice_get new.cells number ≡ slice_get old.cells number
  told_stays number is = elim (grows.cells number is.one is.is) [
    | inl same ↦ same ∙ sym is.is
    | inr waits ↦ absurd (is.told waits)
  ]

  value_stays : (first : ℕ) → IsTold old.cells first → (go other : Told → Asks Held) → go ≡ other
      → asked_value new.cells first go ≡ asked_value old.cells first other
  value_stays first is go other same =
      ap (λ (g : Told → Asks Held). asked_value new.cells first g) same
      ∙ ap (λ (one : Option Cell). Ask first (λ h. go_with (told_by one h) other)) (told_stays first is)

  number_stays : (number : ℕ) (go other : ℕ → Asks Held) → go ≡ other → asked_number number go ≡ asked_number number other
  number_stays number go other same = ap (λ (g : ℕ → Asks Held). asked_number number g) same

  marked_stays : (mark : Mark) → IsMark old.cells mark → (go other : Bool → Asks Held) → go ≡ other
      → marked new.cells mark go ≡ marked old.cells mark other
  marked_stays mark is go other same =
      value_stays mark.value is.value (λ told. marked_in mark told go) (λ told. marked_in mark told other)
      (ap (λ (g : Bool → Asks Held). λ (told : Told). marked_in mark told g) same)

  step_stays : (one : Step) → IsStep old.cells one → (n : ℕ) (go other : ℕ → Asks Held) → go ≡ other
      → passed new.cells one n go ≡ passed old.cells one n other
  step_stays (step.Fixed bits) is n go other same = ap (λ (g : ℕ → Asks Held). g (further bits n)) same
  step_stays (step.Align bits) is n go other same = ap (λ (g : ℕ → Asks Held). g (aligned bits n)) same
  step_stays (step.Marked mark) is n go other same =
      marked_stays mark is (λ there. go (if there then further mark.bits n else n)) (λ there. other (if there then further mark.bits n else n))
      (ap (λ (g : ℕ → Asks Held). λ (there : Bool). g (if there then further mark.bits n else n)) same)
  step_stays (step.Length number) is n go other same =
      ap (λ (g : ℕ → Asks Held). asked_number number (λ bits. g (further bits n))) same
  step_stays (step.Separator number) is n go other same =
      ap (λ (g : ℕ → Asks Held). asked_number number (λ told. g (further (told / 2) n))) same

  steps_stay : (steps : List Step) → All (IsStep old.cells) steps → (n : ℕ) (go other : ℕ → Asks Held) → go ≡ other
      → passed_all new.cells steps n go ≡ passed_all old.cells steps n other
  steps_stay [] are n go other same = ap (λ (g : ℕ → Asks Held). g n) same
  steps_stay (one ∷ steps) are n go other same =
      step_stays one (All-head (IsStep old.cells) one steps are) n (λ after. passed_all new.cells steps after go) (λ after. passed_all old.cells steps after other)
      (fun_ext (λ after. steps_stay steps (All-tail (IsStep old.cells) one steps are) after go other same))

  -- what is between the start of an element with parts and its content
  led_stays : (settled : IsSettled old) (number : ℕ) (one : Complex) → slice_get old.complexes number ≡ Some one → (grown : HasGrown one (slice_get new.complexes number))
      → (n : ℕ) (go other : ℕ → Asks Held) → go ≡ other → led new.cells grown.new n go ≡ led old.cells one n other
  led_stays settled number one is grown n go other same =
      ap (λ (first : ℕ). asked_number first (λ start. passed_all new.cells grown.new.lead (further start n) go)) grown.start
      ∙ (ap (λ (steps : List Step). asked_number one.start (λ start. passed_all new.cells steps (further start n) go)) grown.lead
      ∙ number_stays one.start (λ start. passed_all new.cells one.lead (further start n) go) (λ start. passed_all old.cells one.lead (further start n) other)
      (fun_ext (λ start. steps_stay one.lead (settled.complexes number one is).lead (further start n) go other same)))

  begin_none : (book : Book) (most : ℕ) (go : ℕ → Asks Held) → begin_by book most None go ≡ go 0
  begin_none book zero go = refl
  begin_none book (suc most) go = refl

  around_stays : (most more number : ℕ) (around : Option ℕ) → IsBefore number around → (go other : ℕ → Asks Held) → go ≡ other
      → ((outer : ℕ) → outer < number → begin_by new more (slice_get new.complexes outer) go ≡ begin_by old most (slice_get old.complexes outer) other)
      → begin_by new more (complex_at new around) go ≡ begin_by old most (complex_at old around) other
  around_stays most more number None is go other same outwards =
      begin_none new more go ∙ (ap (λ (g : ℕ → Asks Held). g 0) same ∙ sym (begin_none old most other))
  around_stays most more number (Some outer) is go other same outwards = outwards outer is

  module _ (settled : IsSettled old) where
    -- the begin of the content of an element with parts is asked for as before
    begin_stays : (most more number : ℕ) → number < most → number < more → number < length old.complexes → (go other : ℕ → Asks Held) → go ≡ other
        → begin_by new more (slice_get new.complexes number) go ≡ begin_by old most (slice_get old.complexes number) other
    begin_stays zero more number low less there go other same = absurd (omega arith)
    begin_stays (suc most) zero number low less there go other same = absurd (omega arith)
    begin_stays (suc most) (suc more) number low less there go other same =
        let at : Found old.complexes number = found old.complexes number there in
        let grown : HasGrown at.one (slice_get new.complexes number) = grows.complexes number at.one at.is in
        let complex : IsComplex old number at.one = settled.complexes number at.one at.is in
        let now : ℕ → Asks Held = λ n. led new.cells grown.new n go in
        let was : ℕ → Asks Held = λ n. led old.cells at.one n other in
        let same_led : now ≡ was = fun_ext (λ n. led_stays settled number at.one at.is grown n go other same) in
        ap (λ (o : Option Complex). begin_by new (suc more) o go) grown.is
        ∙ (ap (λ (a : Option ℕ). begin_by new more (complex_at new a) now) grown.around
        ∙ (around_stays most more number at.one.around complex.around now was same_led
        (λ outer before. begin_stays most more outer (omega arith) (omega arith) (omega arith) now was same_led)
        ∙ sym (ap (λ (o : Option Complex). begin_by old (suc most) o other) at.is)))

    as_many : length old.complexes ≤ length new.complexes
    as_many = elim (cases_lt (length new.complexes) (length old.complexes)) [
      | inl fewer ↦
          let at : Found old.complexes (length new.complexes) = found old.complexes (length new.complexes) fewer in
          let grown : HasGrown at.one (slice_get new.complexes (length new.complexes)) = grows.complexes _ at.one at.is in
          absurd (none_some (sym (slice_get_past new.complexes (length new.complexes) (le_refl (length new.complexes))) ∙ grown.is))
      | inr enough ↦ enough
    ]

    begin_at_stays : (around : Option ℕ) → IsAround old around → (go other : ℕ → Asks Held) → go ≡ other
        → asked_begin new around go ≡ asked_begin old around other
    begin_at_stays None is go other same =
        begin_none new (length new.complexes) go ∙ (ap (λ (g : ℕ → Asks Held). g 0) same ∙ sym (begin_none old (length old.complexes) other))
    begin_at_stays (Some number) is go other same =
        begin_stays (length old.complexes) (length new.complexes) number is (lt_of_lt_of_le is as_many) is go other same

    inside_stays : (around : Option ℕ) (first count : ℕ) → IsAround old around → AreSteps old around first count
        → take count (drop first (steps_in (complex_at new around))) ≡ take count (drop first (steps_in (complex_at old around)))
    inside_stays None first count is within = refl
    inside_stays (Some number) first count is within =
        let at : Found old.complexes number = found old.complexes number is in
        let grown : HasGrown at.one (slice_get new.complexes number) = grows.complexes number at.one at.is in
        ap (λ (o : Option Complex). take count (drop first (steps_in o))) grown.is
        ∙ (ap (λ (steps : List Step). take count (drop first steps)) grown.inside
        ∙ (part_stays at.one.inside grown.more first count (subst (λ (o : Option Complex). first + count ≤ length (steps_in o)) at.is within)
        ∙ sym (ap (λ (o : Option Complex). take count (drop first (steps_in o))) at.is)))

    steps_are : (around : Option ℕ) → IsAround old around → All (IsStep old.cells) (steps_in (complex_at old around))
    steps_are None is = All-nil (IsStep old.cells)
    steps_are (Some number) is =
        let at : Found old.complexes number = found old.complexes number is in
        subst (λ (o : Option Complex). All (IsStep old.cells) (steps_in o)) (sym at.is) (settled.complexes number at.one at.is).inside

    part_is : (around : Option ℕ) (first count : ℕ) → IsAround old around → All (IsStep old.cells) (take count (drop first (steps_in (complex_at old around))))
    part_is around first count is = All-take (IsStep old.cells) count _ (All-drop (IsStep old.cells) first _ (steps_are around is))

    start_stays : (after : Option ℕ) (go other : ℕ → Asks Held) → go ≡ other → asked_start after go ≡ asked_start after other
    start_stays after go other same = ap (λ (g : ℕ → Asks Held). asked_start after g) same

    aligned_stays : (around : Option ℕ) → IsAround old around → (steps : List Step) → All (IsStep old.cells) steps → (n : ℕ) (go other : ℕ → Asks Held) → go ≡ other
        → asked_begin new around (λ begin. passed_all new.cells steps (further n begin) (λ after. go (after - begin)))
        ≡ asked_begin old around (λ begin. passed_all old.cells steps (further n begin) (λ after. other (after - begin)))
    aligned_stays around is steps are n go other same =
        begin_at_stays around is _ _ (fun_ext (λ begin. steps_stay steps are (further n begin) (λ after. go (after - begin)) (λ after. other (after - begin))
        (ap (λ (g : ℕ → Asks Held). λ (after : ℕ). g (after - begin)) same)))

    passed_in_by : (is_one : Bool) (around : Option ℕ) → IsAround old around → (steps : List Step) → All (IsStep old.cells) steps → (n : ℕ) (go other : ℕ → Asks Held) → go ≡ other
        → (if is_one then asked_begin new around (λ begin. passed_all new.cells steps (further n begin) (λ after. go (after - begin))) else passed_all new.cells steps n go)
        ≡ (if is_one then asked_begin old around (λ begin. passed_all old.cells steps (further n begin) (λ after. other (after - begin))) else passed_all old.cells steps n other)
    passed_in_by true around is steps are n go other same = aligned_stays around is steps are n go other same
    passed_in_by false around is steps are n go other same = steps_stay steps are n go other same

    passed_in_stays : (around : Option ℕ) → IsAround old around → (steps : List Step) → All (IsStep old.cells) steps → (n : ℕ) (go other : ℕ → Asks Held) → go ≡ other
        → passed_in new around steps n go ≡ passed_in old around steps n other
    passed_in_stays around is steps are n go other same = passed_in_by (list_any is_aligned steps) around is steps are n go other same

    place_stays : (place : Place) → IsPlace old place → (go other : ℕ → Asks Held) → go ≡ other → asked_place new place go ≡ asked_place old place other
    place_stays place is go other same =
        ap (λ (steps : List Step). asked_start place.after (λ start. passed_in new place.around steps start go))
        (inside_stays place.around place.first place.count is.around is.steps)
        ∙ start_stays place.after _ _ (fun_ext (λ start. passed_in_stays place.around is.around (steps_to old place)
        (part_is place.around place.first place.count is.around) start go other same))

    bit_stays : (place : Place) → IsPlace old place → (go other : ℕ → Asks Held) → go ≡ other → asked_bit new place go ≡ asked_bit old place other
    bit_stays place is go other same =
        begin_at_stays place.around is.around _ _ (fun_ext (λ begin. place_stays place is (λ n. go (further n begin)) (λ n. other (further n begin))
        (ap (λ (g : ℕ → Asks Held). λ (n : ℕ). g (further n begin)) same)))

    -- slots and separators
    unaligned_are : (steps : List Step) → All (IsStep old.cells) steps → All (IsStep old.cells) (unaligned steps)
    unaligned_are [] are = All-nil (IsStep old.cells)
    unaligned_are (step.Align bits ∷ steps) are = unaligned_are steps (All-tail (IsStep old.cells) (step.Align bits) steps are)
    unaligned_are (step.Fixed bits ∷ steps) are =
        All-cons (IsStep old.cells) (step.Fixed bits) (unaligned steps) (All-head (IsStep old.cells) (step.Fixed bits) steps are) (unaligned_are steps (All-tail (IsStep old.cells) (step.Fixed bits) steps are))
    unaligned_are (step.Marked mark ∷ steps) are =
        All-cons (IsStep old.cells) (step.Marked mark) (unaligned steps) (All-head (IsStep old.cells) (step.Marked mark) steps are) (unaligned_are steps (All-tail (IsStep old.cells) (step.Marked mark) steps are))
    unaligned_are (step.Length number ∷ steps) are =
        All-cons (IsStep old.cells) (step.Length number) (unaligned steps) (All-head (IsStep old.cells) (step.Length number) steps are) (unaligned_are steps (All-tail (IsStep old.cells) (step.Length number) steps are))
    unaligned_are (step.Separator number ∷ steps) are =
        All-cons (IsStep old.cells) (step.Separator number) (unaligned steps) (All-head (IsStep old.cells) (step.Separator number) steps are) (unaligned_are steps (All-tail (IsStep old.cells) (step.Separator number) steps are))

    long_stays : (slot : SlotEnd) → IsAround old slot.around → AreSteps old slot.around slot.first slot.count → (go other : Bool → Asks Held) → go ≡ other → is_long new slot go ≡ is_long old slot other
    long_stays slot is has go other same =
        ap (λ (steps : List Step). passed_all new.cells (unaligned steps) 0 (λ bits. go (not (bits == 0))))
        (inside_stays slot.around slot.first slot.count is has)
        ∙ steps_stay (steps_of old slot) (unaligned_are _ (part_is slot.around slot.first slot.count is)) 0 _ _
        (ap (λ (g : Bool → Asks Held). λ (bits : ℕ). g (not (bits == 0))) same)

    stands_stay : (slot : Stands) → IsStands old slot → HasSlot old slot → (go other : Bool → Asks Held) → go ≡ other → stands new slot go ≡ stands old slot other
    stands_stay stands_by.Always is has go other same = ap (λ (g : Bool → Asks Held). g true) same
    stands_stay (stands_by.IfLong slot) is has go other same = long_stays slot is has go other same
    stands_stay (stands_by.IfLater slot later) is has go other same =
        long_stays slot is.0 has _ _ (ap (λ (g : Bool → Asks Held). λ (long : Bool). if long then g true else separators.is_later later g) same)

    earlier_stays : (before : Earlier) → IsEarlier old before → HasEarlier old before → (go other : Bool → Asks Held) → go ≡ other → is_earlier new before go ≡ is_earlier old before other
    earlier_stays earlier.None is has go other same = ap (λ (g : Bool → Asks Held). g false) same
    earlier_stays earlier.Some is has go other same = ap (λ (g : Bool → Asks Held). g true) same
    earlier_stays (earlier.IfLong slot) is has go other same = long_stays slot is has go other same
    earlier_stays (earlier.Told number) is has go other same = ap (λ (g : Bool → Asks Held). is_earlier old (earlier.Told number) g) same

    earlier_then_stays : (before : Earlier) → IsEarlier old before → HasEarlier old before → (slot : Stands) → IsStands old slot → HasSlot old slot → (go : Bool → Bool → Asks Held)
        → is_earlier new before (λ is_before. stands new slot (λ is_written. go is_before is_written))
        ≡ is_earlier old before (λ is_before. stands old slot (λ is_written. go is_before is_written))
    earlier_then_stays before is has slot is_slot has_slot go =
        earlier_stays before is has _ _ (fun_ext (λ is_before. stands_stay slot is_slot has_slot (go is_before) (go is_before) refl))

    -- pieces
    within_stays : (bound : Option Bound) → IsBound old bound → (end : ℕ) → pieces.within new bound end ≡ pieces.within old bound end
    within_stays None is end = refl
    within_stays (Some bound) is end = begin_at_stays (Some bound.complex) is _ _ refl

    opened_stays : (plan : Plan) (markup : ℕ) → markup < length old.markups → pieces.opened_at plan new markup ≡ pieces.opened_at plan old markup
    opened_stays plan markup is =
        let at : Found old.markups markup = found old.markups markup is in
        ap (pieces.opened_in plan) (grows.markups markup at.one at.is ∙ sym at.is)

    written_stays : (plan : Plan) (component markup : ℕ) → markup < length old.markups → (told : Told)
        → pieces.written_at plan new component markup told ≡ pieces.written_at plan old component markup told
    written_stays plan component markup is told =
        ap (λ (opened : List Opened). pieces.written_by (writing_of plan component) (form_of plan component) opened told) (opened_stays plan markup is)

    separator_stays : (position : SeparatorPosition) (slot : Stands) (before : Earlier) → IsStands old slot → HasSlot old slot → IsEarlier old before → HasEarlier old before → (one : Result Written Unwritten)
        → pieces.separator_or new position slot before one ≡ pieces.separator_or old position slot before one
    separator_stays position slot before is_slot has_slot is has (Ok one) =
        earlier_then_stays before is has slot is_slot has_slot (λ is_before is_written. separators.told position one.bits slot is_written is_before)
    separator_stays position slot before is_slot has_slot is has (Err cause) =
        earlier_then_stays before is has slot is_slot has_slot (λ is_before is_written. separators.told_or position slot is_written is_before (cause_of cause))

    prefix_stays : (plan : Plan) (component : ℕ) (form : Prefix) (markup : ℕ) → markup < length old.markups → (value : Option ℕ) → IsToldIf old.cells value → (bits : ℕ)
        → pieces.prefix_known plan new component form markup value bits ≡ pieces.prefix_known plan old component form markup value bits
    prefix_stays plan component form markup is None told bits = refl
    prefix_stays plan component form markup is (Some value) told bits =
        value_stays value told _ _ (fun_ext (λ one. ap (λ (w : Result Written Unwritten).
        pieces.known_or (pieces.prefix_at plan component form bits (pieces.characters_in (form_of plan component) w))) (written_stays plan component markup is one)))

    content_stays : (place : Place) → IsPlace old place → (one : Result Written Unwritten) → pieces.content_known new place one ≡ pieces.content_known old place one
    content_stays place is (Err cause) = refl
    content_stays place is (Ok one) = ap (λ (t : Asks Held). if nat_lt 0 one.fill then t else pieces.known) (bit_stays place is (λ bit. pieces.known) (λ bit. pieces.known) refl)

    piece_stays : (plan : Plan) (cell : ℕ) (one : Piece) → IsPiece old one → HasSlots old one → pieces.equation_of plan new cell one ≡ pieces.equation_of plan old cell one
    piece_stays plan cell (piece.Skip bits fill place bound) is has =
        bit_stays place is.0 _ _ (fun_ext (λ bit. within_stays bound is.1 (further bits bit)))
    piece_stays plan cell (piece.Align bits fill place bound) is has =
        bit_stays place is.0 _ _ (fun_ext (λ bit. within_stays bound is.1 (aligned bits bit)))
    piece_stays plan cell (piece.Delimiter component list) is has = refl
    piece_stays plan cell (piece.Marked component list mark) is has = marked_stays mark is _ _ refl
    piece_stays plan cell (piece.Separator component list position slot before) is has = separator_stays position slot before is.0 has.0 is.1 has.1 (pieces.delimiter_of plan component list)
    piece_stays plan cell (piece.Prefix component form number value markup) is has =
        number_stays number _ _ (fun_ext (λ bits. prefix_stays plan component form markup is.1.1 value is.1.0 bits))
    piece_stays plan cell (piece.Content component first markup place) is has =
        value_stays first is.0.value _ _ (fun_ext (λ told.
        ap (pieces.content_known new place) (written_stays plan component markup is.0.markup_is told)
        ∙ content_stays place is.1 (pieces.written_at plan old component markup told)))
    piece_stays plan cell (piece.Rest inside bits fill place) is has =
        number_stays inside _ _ (fun_ext (λ length.
        ap (λ (t : Asks Held). if nat_lt bits length then Fails pieces.passes_content else t) (bit_stays place is.1 (λ bit. pieces.known) (λ bit. pieces.known) refl)))
    piece_stays plan cell (piece.End fill place) is has = bit_stays place is (λ bit. pieces.known) (λ bit. pieces.known) refl
    piece_stays plan cell piece.Missing is has = refl

    bits_stay : (plan : Plan) (cell number : ℕ) → HaveSlots old → number < length old.pieces
        → bits_of plan new cell (slice_get new.pieces number) ≡ bits_of plan old cell (slice_get old.pieces number)
    bits_stay plan cell number slots is =
        let at : Found old.pieces number = found old.pieces number is in
        ap (bits_of plan new cell) (grows.pieces number at.one at.is)
        ∙ (piece_stays plan cell at.one (settled.pieces number at.one at.is) (slots number at.one at.is)
        ∙ sym (ap (bits_of plan old cell) at.is))

    content_length_stays : (plan : Plan) (component first markup : ℕ) → IsContent old first markup → (constant : Option ℕ)
        → content_length_by plan new component first markup constant ≡ content_length_by plan old component first markup constant
    content_length_stays plan component first markup is (Some bits) = refl
    content_length_stays plan component first markup is None =
        value_stays first is.value _ _ (fun_ext (λ told. ap (λ (w : Result Written Unwritten). length_or (size_in w)) (written_stays plan component markup is.markup_is told)))

    named_stays : (plan : Plan) (cell : ℕ) (one : Cell) → HaveSlots old → IsNamed old one → equation_of plan new cell one ≡ equation_of plan old cell one
    named_stays plan cell cell_of.Waiting slots is = refl
    named_stays plan cell (cell_of.Faulty cause) slots is = refl
    named_stays plan cell (cell_of.Given value) slots is = refl
    named_stays plan cell cell_of.Nil slots is = refl
    named_stays plan cell (cell_of.Items items) slots is = refl
    named_stays plan cell (cell_of.ValueLength component first) slots is = value_stays first is _ _ refl
    named_stays plan cell (cell_of.ContentLength component first markup) slots is = content_length_stays plan component first markup is (constant_of (form_of plan component))
    named_stays plan cell (cell_of.Reached place) slots is = place_stays place is is_number is_number refl
    named_stays plan cell (cell_of.Boxed size inside) slots is = refl
    named_stays plan cell (cell_of.Bits number) slots is = bits_stay plan cell number slots is

    -- an equation stays unless its unknown waits for an event
    pub equation_stays : HaveSlots old → (plan : Plan) (cell : ℕ) (one : Cell) → slice_get old.cells cell ≡ Some one → one ≢ cell_of.Waiting → equation_in plan new cell ≡ equation_in plan old cell
    equation_stays slots plan cell one is told =
        elim (grows.cells cell one is) [
          | inl same ↦ ap (equation_or plan new cell) same ∙ (named_stays plan cell one slots (settled.cells cell one is) ∙ sym (ap (equation_or plan old cell) is))
          | inr waits ↦ absurd (told waits)
        ]

-- an unknown that waits for an event, or isn't there, waits for itself
pub equation_waits : (plan : Plan) (book : Book) (cell : ℕ) → slice_get book.cells cell ≡ Some cell_of.Waiting → equation_in plan book cell ≡ waiting cell
equation_waits plan book cell is = ap (equation_or plan book cell) is

pub equation_past : (plan : Plan) (book : Book) (cell : ℕ) → length book.cells ≤ cell → equation_in plan book cell ≡ waiting cell
equation_past plan book cell past = ap (equation_or plan book cell) (slice_get_past book.cells cell past)
