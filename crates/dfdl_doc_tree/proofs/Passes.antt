-- The machine goes on over runs of plain characters.
use Rattle.std.proofs.Common.{◌≡◌, ◌≤◌, ℕ, Bool, true, false, List, [], ◌∷◌, ◌++◌, ◌||◌, not, ◌==◌, nat_le}
use Rattle.std.proofs.Common.{refl, sym, ap, ◌∙◌, subst, take, length, Ok, None, append_assoc, append-nil}
use Rattle.std.proofs.lemmas.Bool.{and_parts, and_from}
use Rattle.std.specs.List.{list_all}
use Rattle.std.specs.Prelude.{is_some}
use denote.Ref.{Bor}
use Rattle.dfdl_xml_names.specs.Shown.{lent_text}
use Rattle.dfdl_doc_tree.specs.Shown.{ahead_seen}
use Rattle.dfdl_doc_tree.specs.ScannerShown.{place_seen, state_seen}
use Rattle.dfdl_doc_tree.specs.declared.mark.Mark.{Mark}
use Rattle.dfdl_doc_tree.specs.declared.scanner.Scanner.{Scanner}
use Rattle.dfdl_markup.specs.Machine.{State, Frame, StartTag, Reading, First, Second, OpenValue, with_text}
use Rattle.dfdl_markup.specs.Machine.{NothingAhead, AtContent, AtSection, AtComment, AtInstruction, AtTag, AtValue}
use Rattle.dfdl_markup.specs.Machine.{AtTagName, AtAttributeName, Place, step, fixed_value, whole_name}
use Rattle.dfdl_markup.specs.Machine.{content_step, section_step, comment_step, instruction_step, tag_step, value_step}
use Rattle.dfdl_markup.specs.Machine.{tag_name_step, attribute_name_step, name_next}
use Rattle.dfdl_markup.specs.Grammar.{is_white}
use Rattle.dfdl_markup.specs.Grammar.{Name}
use Rattle.dfdl_markup.specs.Values.{letter_read}
use Rattle.dfdl_markup.specs.Building.{Effect, effect_at, tag_effect}
use Rattle.dfdl_markup.specs.Building as building
use Rattle.dfdl_doc_tree.proofs.NameLetters.{no_greater}
use Rattle.std.proofs.Common.{Option, Some, arith}
use Rattle.std.proofs.lemmas.Bool.Decides.{nat_tests}
use Rattle.std.proofs.lemmas.Bool.{eqb-true}
use Rattle.dfdl_xml_chars.specs.Characters.{is_name_char}
use Rattle.dfdl_doc_tree.specs.Plain.{is_plain, is_of, Passes, IsPassed, quiet, reads, ReadsOn}
use Rattle.dfdl_doc_tree.specs.declared.plain.Class.{Class}
use Rattle.dfdl_doc_tree.specs.declared.plain.Class.TheVariants as class

-- a test that fails, or one of two
none_of : (a b : Bool) → not (a || b) ≡ true → (a ≡ false) × (not b ≡ true)
none_of true b is = absurd (cc)
none_of false b is = (refl, is)

fails : (a : Bool) → not a ≡ true → a ≡ false
fails true is = absurd (cc)
fails false is = refl

plain_one : (kind : Class) (c : ℕ) → is_of kind c ≡ true → is_plain c ≡ true
unfolding is_of
plain_one class.Text c is = (and_parts (is_plain c) _ is).0
plain_one class.Section c is = (and_parts (is_plain c) _ is).0
plain_one class.Comment c is = (and_parts (is_plain c) _ is).0
plain_one class.Instruction c is = (and_parts (is_plain c) _ is).0
plain_one class.White c is = (and_parts (is_plain c) _ is).0
plain_one (class.Value quote) c is = (and_parts (is_plain c) _ is).0
plain_one class.Name c is = (and_parts (is_plain c) _ is).0

-- each character of a class is plain
pub plain_class : (kind : Class) (run : List ℕ) → list_all (is_of kind) run ≡ true
    → list_all is_plain run ≡ true
plain_class kind [] are = refl
plain_class kind (c ∷ run) are =
    let parts = and_parts (is_of kind c) (list_all (is_of kind) run) are in
    and_from _ _ (plain_one kind c parts.0) (plain_class kind run parts.1)

-- a character that leaves the state as it is
abbrev Stays : (ℕ → Effect) → State → ℕ → Type 0
Stays effect s c = (step s c ≡ Ok s) × (effect_at s.place s c ≡ effect c)

stays_on : (kind : Class) (effect : ℕ → Effect) (s : State)
    → ((c : ℕ) → is_of kind c ≡ true → Stays effect s c)
    → (run : List ℕ) → list_all (is_of kind) run ≡ true → Passes effect s run s
stays_on kind effect s goes [] are = refl
stays_on kind effect s goes (c ∷ run) are =
    let parts = and_parts (is_of kind c) (list_all (is_of kind) run) are in
    let first = goes c parts.0 in
    (s, (first.0, (first.1, stays_on kind effect s goes run parts.1)))

-- the state at a place where the document may not be declared any more
abbrev pub stood : Place → ℕ → List Frame → State
stood place begun frames =
    record { ahead = NothingAhead; place = place; begun = begun; frames = frames }

text_stays : (begun : ℕ) (frame : Frame) (frames : List Frame) (c : ℕ) → is_of class.Text c ≡ true
    → Stays reads (stood (AtContent 0) begun (frame ∷ frames)) c
unfolding step content_step is_of
text_stays begun frame frames c is =
    let tests = none_of (c == 60) (c == 38 || c == 93) (and_parts (is_plain c) _ is).1 in
    let more = none_of (c == 38) (c == 93) tests.1 in
    let last = fails (c == 93) more.1 in
    (rw tests.0 (rw more.0 (rw last refl)), rw tests.0 (rw more.0 refl))

section_stays : (begun : ℕ) (frames : List Frame) (c : ℕ) → is_of class.Section c ≡ true
    → Stays reads (stood (AtSection 0) begun frames) c
unfolding step section_step is_of
section_stays begun frames c is =
    let last = fails (c == 93) (and_parts (is_plain c) _ is).1 in
    (rw last refl, rw last refl)

comment_stays : (begun : ℕ) (frames : List Frame) (c : ℕ) → is_of class.Comment c ≡ true
    → Stays quiet (stood (AtComment 0) begun frames) c
unfolding step comment_step is_of
comment_stays begun frames c is =
    let last = fails (c == 45) (and_parts (is_plain c) _ is).1 in (rw last refl, refl)

instruction_stays : (begun : ℕ) (frames : List Frame) (c : ℕ) → is_of class.Instruction c ≡ true
    → Stays quiet (stood (AtInstruction false) begun frames) c
unfolding step instruction_step is_of
instruction_stays begun frames c is =
    let last = fails (c == 63) (and_parts (is_plain c) _ is).1 in (rw last refl, refl)

-- a white character is one of the machine, and none that ends a tag
white_is : (c : ℕ) → is_of class.White c ≡ true → (is_white c ≡ true) × ((c == 62) ≡ false)
unfolding is_of is_white
white_is c is = let parts = and_parts (is_plain c) _ is in (grind (arith, nat_tests, parts), grind (arith, nat_tests, parts))

white_stays : (tag : StartTag) (begun : ℕ) (frames : List Frame) (c : ℕ) → is_of class.White c ≡ true
    → Stays quiet (stood (AtTag tag true) begun frames) c
unfolding step tag_step
white_stays tag begun frames c is = let white = white_is c is in (rw white.0 refl, rw white.1 refl)

top_is : (c : ℕ) → is_of class.White c ≡ true → ((c == 60) ≡ false) × (is_white c ≡ true)
unfolding is_of is_white
top_is c is = let parts = and_parts (is_plain c) _ is in (grind (arith, nat_tests, parts), grind (arith, nat_tests, parts))

top_stays : (begun : ℕ) (c : ℕ) → is_of class.White c ≡ true
    → Stays quiet (stood (AtContent 0) begun []) c
unfolding step content_step
top_stays begun c is =
    let tests = top_is c is in (rw tests.0 (rw tests.1 refl), rw tests.0 refl)

-- a state that has nothing ahead stands at its place
stood_is : (s : State) (place : Place) → s.ahead ≡ NothingAhead → s.place ≡ place
    → s ≡ stood place s.begun s.frames
stood_is s place ahead is =
    ap (λ a. record { ahead = a; place = s.place; begun = s.begun; frames = s.frames }) ahead
    ∙ ap (λ p. stood p s.begun s.frames) is

-- characters of a class at a place that they leave as it is
at_place : (kind : Class) (effect : ℕ → Effect) (s : State) (bytes : List ℕ) (count : ℕ)
    → ((c : ℕ) → is_of kind c ≡ true → Stays effect s c) → count ≤ length bytes
    → list_all (is_of kind) (take count bytes) ≡ true → IsPassed effect s bytes count s
at_place kind effect s bytes count goes within are = record {
  within = within;
  plain = plain_class kind (take count bytes) are;
  passes = stays_on kind effect s goes (take count bytes) are;
}

pub no_bytes : (effect : ℕ → Effect) (s : State) (bytes : List ℕ) → IsPassed effect s bytes 0 s
no_bytes effect s bytes = record { within = omega arith; plain = refl; passes = refl }

pub section_passed : (s : State) (bytes : List ℕ) (count : ℕ) → s.ahead ≡ NothingAhead
    → s.place ≡ AtSection 0 → count ≤ length bytes
    → list_all (is_of class.Section) (take count bytes) ≡ true → IsPassed reads s bytes count s
section_passed s bytes count ahead is within are =
    subst (λ t. IsPassed reads t bytes count t) (sym (stood_is s (AtSection 0) ahead is))
    (at_place class.Section reads _ bytes count (section_stays s.begun s.frames) within are)

pub comment_passed : (s : State) (bytes : List ℕ) (count : ℕ) → s.ahead ≡ NothingAhead
    → s.place ≡ AtComment 0 → count ≤ length bytes
    → list_all (is_of class.Comment) (take count bytes) ≡ true → IsPassed quiet s bytes count s
comment_passed s bytes count ahead is within are =
    subst (λ t. IsPassed quiet t bytes count t) (sym (stood_is s (AtComment 0) ahead is))
    (at_place class.Comment quiet _ bytes count (comment_stays s.begun s.frames) within are)

pub instruction_passed : (s : State) (bytes : List ℕ) (count : ℕ) → s.ahead ≡ NothingAhead
    → s.place ≡ AtInstruction false → count ≤ length bytes
    → list_all (is_of class.Instruction) (take count bytes) ≡ true → IsPassed quiet s bytes count s
instruction_passed s bytes count ahead is within are =
    subst (λ t. IsPassed quiet t bytes count t) (sym (stood_is s (AtInstruction false) ahead is))
    (at_place class.Instruction quiet _ bytes count (instruction_stays s.begun s.frames) within are)

pub white_passed : (s : State) (tag : StartTag) (bytes : List ℕ) (count : ℕ) → s.ahead ≡ NothingAhead
    → s.place ≡ AtTag tag true → count ≤ length bytes
    → list_all (is_of class.White) (take count bytes) ≡ true → IsPassed quiet s bytes count s
white_passed s tag bytes count ahead is within are =
    subst (λ t. IsPassed quiet t bytes count t) (sym (stood_is s (AtTag tag true) ahead is))
    (at_place class.White quiet _ bytes count (white_stays tag s.begun s.frames) within are)

pub text_passed : (s : State) (bytes : List ℕ) (count : ℕ) → s.ahead ≡ NothingAhead
    → s.place ≡ AtContent 0 → (length s.frames == 0) ≡ false → count ≤ length bytes
    → list_all (is_of class.Text) (take count bytes) ≡ true → IsPassed reads s bytes count s
text_passed s bytes count ahead is inside within are =
    subst (λ t. IsPassed reads t bytes count t) (sym (stood_is s (AtContent 0) ahead is))
    (by_frames s.frames inside)
  where
    by_frames : (frames : List Frame) → (length frames == 0) ≡ false
        → IsPassed reads (stood (AtContent 0) s.begun frames) bytes count (stood (AtContent 0) s.begun frames)
    by_frames [] inside = absurd (cc)
    by_frames (frame ∷ frames) inside =
        at_place class.Text reads _ bytes count (text_stays s.begun frame frames) within are

pub top_passed : (s : State) (bytes : List ℕ) (count : ℕ) → s.ahead ≡ NothingAhead
    → s.place ≡ AtContent 0 → (length s.frames == 0) ≡ true → count ≤ length bytes
    → list_all (is_of class.White) (take count bytes) ≡ true → IsPassed quiet s bytes count s
top_passed s bytes count ahead is outside within are =
    subst (λ t. IsPassed quiet t bytes count t) (sym (stood_is s (AtContent 0) ahead is))
    (by_frames s.frames outside)
  where
    by_frames : (frames : List Frame) → (length frames == 0) ≡ true
        → IsPassed quiet (stood (AtContent 0) s.begun frames) bytes count (stood (AtContent 0) s.begun frames)
    by_frames [] outside = at_place class.White quiet _ bytes count (top_stays s.begun) within are
    by_frames (frame ∷ frames) outside =
        let none : length (frame ∷ frames) ≡ 0 = eqb-true _ _ outside in absurd (omega (arith, none))

-- values

abbrev value_of : (tag : StartTag) (name : Name) (quote : ℕ) (text : List ℕ) → OpenValue
value_of tag name quote text =
    record { tag = tag; name = name; quote = quote; text = text; behind_cr = false }

letter_is : (quote c : ℕ) → is_of (class.Value quote) c ≡ true
    → ((c == quote) ≡ false) × (((c == 60) ≡ false) × (((c == 38) ≡ false) × ((letter_read false c ≡ c ∷ []) × ((c == 13) ≡ false))))
unfolding is_of is_white
letter_is quote c is =
    let parts = and_parts (nat_le 32 c) _ (and_parts (is_plain c) _ is).1 in
    let tests = none_of (c == quote) (c == 60 || c == 38) parts.1 in
    let more = none_of (c == 60) (c == 38) tests.1 in
    let last = fails (c == 38) more.1 in
    (tests.0, (more.0, (last, (letter c parts.0, grind (arith, nat_tests, parts.0)))))
  where
    letter : (c : ℕ) → nat_le 32 c ≡ true → letter_read false c ≡ c ∷ []
    letter c least = grind (arith, nat_tests, least)

value_step_is : (begun : ℕ) (frames : List Frame) (tag : StartTag) (name : Name) (quote : ℕ) (text : List ℕ) (c : ℕ)
    → fixed_value name ≡ None → is_of (class.Value quote) c ≡ true
    → step (stood (AtValue (value_of tag name quote text)) begun frames) c
    ≡ Ok (stood (AtValue (value_of tag name quote (text ++ c ∷ []))) begun frames)
unfolding step value_step
value_step_is begun frames tag name quote text c free is =
    let tests = letter_is quote c is in
    rw tests.0 (rw free (rw tests.1.0 (rw tests.1.1.0 (rw tests.1.1.1.0 (rw tests.1.1.1.1 refl)))))

value_on : (begun : ℕ) (frames : List Frame) (tag : StartTag) (name : Name) (quote : ℕ) (text run : List ℕ)
    → fixed_value name ≡ None → list_all (is_of (class.Value quote)) run ≡ true
    → Passes quiet (stood (AtValue (value_of tag name quote text)) begun frames) run
    (stood (AtValue (value_of tag name quote (text ++ run))) begun frames)
value_on begun frames tag name quote text [] free are =
    ap (λ t. stood (AtValue (value_of tag name quote t)) begun frames) (sym (append-nil text))
value_on begun frames tag name quote text (c ∷ run) free are =
    let parts = and_parts (is_of (class.Value quote) c) (list_all (is_of (class.Value quote)) run) are in
    let rest = value_on begun frames tag name quote (text ++ c ∷ []) run free parts.1 in (
      stood (AtValue (value_of tag name quote (text ++ c ∷ []))) begun frames,
      (
        value_step_is begun frames tag name quote text c free parts.0,
        (
          refl,
          subst (λ t. Passes quiet (stood (AtValue (value_of tag name quote (text ++ c ∷ []))) begun frames) run
              (stood (AtValue (value_of tag name quote t)) begun frames)) (append_assoc text (c ∷ []) run) rest,
        ),
      ),
    )

-- the value with the characters at the head
pub value_passed : (s t : State) (v : OpenValue) (bytes : List ℕ) (count : ℕ) → s.ahead ≡ NothingAhead
    → s.place ≡ AtValue v → v.behind_cr ≡ false → fixed_value v.name ≡ None → count ≤ length bytes
    → list_all (is_of (class.Value v.quote)) (take count bytes) ≡ true
    → t ≡ record { ahead = s.ahead; place = AtValue (with_text v (take count bytes) v.behind_cr); begun = s.begun; frames = s.frames }
    → IsPassed quiet s bytes count t
value_passed s t v bytes count ahead is cr free within are goes =
    subst (λ u. IsPassed quiet u bytes count t) (sym (from_is))
    (subst (λ u. IsPassed quiet (stood (AtValue (value_of v.tag v.name v.quote v.text)) s.begun s.frames) bytes count u) (sym to_is)
    (record {
      within = within;
      plain = plain_class (class.Value v.quote) (take count bytes) are;
      passes = value_on s.begun s.frames v.tag v.name v.quote v.text (take count bytes) free are;
    }))
  where
    from_is : s ≡ stood (AtValue (value_of v.tag v.name v.quote v.text)) s.begun s.frames
    from_is = stood_is s (AtValue v) ahead is
        ∙ ap (λ b. stood (AtValue (record { tag = v.tag; name = v.name; quote = v.quote; text = v.text; behind_cr = b })) s.begun s.frames) cr

    to_is : t ≡ stood (AtValue (value_of v.tag v.name v.quote (v.text ++ take count bytes))) s.begun s.frames
    to_is = goes
        ∙ (ap (λ a. record { ahead = a; place = AtValue (with_text v (take count bytes) v.behind_cr); begun = s.begun; frames = s.frames }) ahead
        ∙ ap (λ b. stood (AtValue (with_text v (take count bytes) b)) s.begun s.frames) cr)

-- names

first_on : (part run : List ℕ) → list_all (is_of class.Name) run ≡ true → ReadsOn (First part) run (First (part ++ run))
unfolding name_next is_of
first_on part [] are = ap (λ p. First p) (sym (append-nil part))
first_on part (c ∷ run) are =
    let parts = and_parts (is_of class.Name c) (list_all (is_of class.Name) run) are in (
      First (part ++ c ∷ []),
      (
        rw (and_parts (is_plain c) _ parts.0).1 refl,
        subst (λ p. ReadsOn (First (part ++ c ∷ [])) run (First p)) (append_assoc part (c ∷ []) run) (first_on (part ++ c ∷ []) run parts.1),
      ),
    )

second_on : (prefix part run : List ℕ) → list_all (is_of class.Name) run ≡ true
    → ReadsOn (Second prefix part) run (Second prefix (part ++ run))
unfolding name_next is_of
second_on prefix part [] are = ap (λ p. Second prefix p) (sym (append-nil part))
second_on prefix part (c ∷ run) are =
    let parts = and_parts (is_of class.Name c) (list_all (is_of class.Name) run) are in (
      Second prefix (part ++ c ∷ []),
      (
        rw (and_parts (is_plain c) _ parts.0).1 refl,
        subst (λ p. ReadsOn (Second prefix (part ++ c ∷ [])) run (Second prefix p)) (append_assoc part (c ∷ []) run) (second_on prefix (part ++ c ∷ []) run parts.1),
      ),
    )

pub first_goes : (part run grown : List ℕ) → list_all (is_of class.Name) run ≡ true → grown ≡ part ++ run
    → ReadsOn (First part) run (First grown)
first_goes part run grown are is =
    subst (λ p. ReadsOn (First part) run (First p)) (sym is) (first_on part run are)

pub second_goes : (prefix part run grown : List ℕ) → list_all (is_of class.Name) run ≡ true
    → grown ≡ part ++ run → ReadsOn (Second prefix part) run (Second prefix grown)
second_goes prefix part run grown are is =
    subst (λ p. ReadsOn (Second prefix part) run (Second prefix p)) (sym is) (second_on prefix part run are)

not_end : (c : ℕ) → is_name_char c ≡ true → (c == 62) ≡ false
not_end c is = by_test (c == 62) refl
  where
    by_test : (b : Bool) → (c == 62) ≡ b → (c == 62) ≡ false
    by_test false e = e
    by_test true e = absurd (no_greater c is (eqb-true c 62 e))

-- no character of a name ends a tag
no_end : (whole : Option Name) (c : ℕ) → is_of class.Name c ≡ true → tag_effect whole c ≡ building.Stays
unfolding is_of
no_end None c is = refl
no_end (Some name) c is = rw (not_end c (and_parts (is_plain c) _ is).1) refl

tag_name_step_is : (r p : Reading) (begun : ℕ) (frames : List Frame) (c : ℕ) → name_next r c ≡ Some p
    → step (stood (AtTagName r) begun frames) c ≡ Ok (stood (AtTagName p) begun frames)
unfolding step tag_name_step
tag_name_step_is r p begun frames c is = rw is refl

attribute_name_step_is : (tag : StartTag) (r p : Reading) (begun : ℕ) (frames : List Frame) (c : ℕ) → name_next r c ≡ Some p
    → step (stood (AtAttributeName tag r) begun frames) c ≡ Ok (stood (AtAttributeName tag p) begun frames)
unfolding step attribute_name_step
attribute_name_step_is tag r p begun frames c is = rw is refl

-- what the characters of names do at a place where a name is read
abbrev NameGoes : (Reading → Place) → ℕ → List Frame → Type 0
NameGoes at begun frames =
    (r p : Reading) (c : ℕ) → is_of class.Name c ≡ true → name_next r c ≡ Some p
    → (step (stood (at r) begun frames) c ≡ Ok (stood (at p) begun frames))
    × (effect_at (at r) (stood (at r) begun frames) c ≡ building.Stays)

names_on : (at : Reading → Place) (begun : ℕ) (frames : List Frame) → NameGoes at begun frames
    → (r q : Reading) (run : List ℕ) → list_all (is_of class.Name) run ≡ true → ReadsOn r run q
    → Passes quiet (stood (at r) begun frames) run (stood (at q) begun frames)
names_on at begun frames goes r q [] are reads = ap (λ p. stood (at p) begun frames) reads
names_on at begun frames goes r q (c ∷ run) are reads =
    let parts = and_parts (is_of class.Name c) (list_all (is_of class.Name) run) are in
    let next = reads.0 in
    let first = goes r next c parts.0 reads.1.0 in
    (stood (at next) begun frames, (first.0, (first.1, names_on at begun frames goes next q run parts.1 reads.1.1)))

name_passed : (at : Reading → Place) (s t : State) (r q : Reading) (bytes : List ℕ) (count : ℕ)
    → NameGoes at s.begun s.frames
    → s.ahead ≡ NothingAhead → s.place ≡ at r → count ≤ length bytes
    → list_all (is_of class.Name) (take count bytes) ≡ true → ReadsOn r (take count bytes) q
    → t ≡ record { ahead = s.ahead; place = at q; begun = s.begun; frames = s.frames }
    → IsPassed quiet s bytes count t
name_passed at s t r q bytes count go ahead is within are reads goes =
    subst (λ u. IsPassed quiet u bytes count t) (sym (stood_is s (at r) ahead is))
    (subst (λ u. IsPassed quiet (stood (at r) s.begun s.frames) bytes count u)
    (sym (goes ∙ ap (λ a. record { ahead = a; place = at q; begun = s.begun; frames = s.frames }) ahead))
    (record {
      within = within;
      plain = plain_class class.Name (take count bytes) are;
      passes = names_on at s.begun s.frames go r q (take count bytes) are reads;
    }))

pub tag_name_passed : (s t : State) (r q : Reading) (bytes : List ℕ) (count : ℕ)
    → s.ahead ≡ NothingAhead → s.place ≡ AtTagName r → count ≤ length bytes
    → list_all (is_of class.Name) (take count bytes) ≡ true → ReadsOn r (take count bytes) q
    → t ≡ record { ahead = s.ahead; place = AtTagName q; begun = s.begun; frames = s.frames }
    → IsPassed quiet s bytes count t
tag_name_passed s t r q bytes count =
    name_passed (λ p. AtTagName p) s t r q bytes count
    (λ a b c is goes. (tag_name_step_is a b s.begun s.frames c goes, no_end (whole_name a) c is))

pub attribute_name_passed : (s t : State) (tag : StartTag) (r q : Reading) (bytes : List ℕ) (count : ℕ)
    → s.ahead ≡ NothingAhead → s.place ≡ AtAttributeName tag r → count ≤ length bytes
    → list_all (is_of class.Name) (take count bytes) ≡ true → ReadsOn r (take count bytes) q
    → t ≡ record { ahead = s.ahead; place = AtAttributeName tag q; begun = s.begun; frames = s.frames }
    → IsPassed quiet s bytes count t
attribute_name_passed s t tag r q bytes count =
    name_passed (λ p. AtAttributeName tag p) s t r q bytes count
    (λ a b c is goes. (attribute_name_step_is tag a b s.begun s.frames c goes, refl))

-- the state of a scanner at a mark that is told
pub marked_at : (s : Scanner) (mark : Mark) (place : Place) → s.mark ≡ mark → place_seen mark s ≡ place
    → state_seen s ≡ record { ahead = ahead_seen s.ahead; place = place; begun = s.roots; frames = s.frames }
marked_at s mark place is at =
    ap (λ m. record { ahead = ahead_seen s.ahead; place = place_seen m s; begun = s.roots; frames = s.frames }) is
    ∙ ap (λ p. record { ahead = ahead_seen s.ahead; place = p; begun = s.roots; frames = s.frames }) at

-- what is lacking is none
pub none_lent : (lent : Option (Bor (List ℕ))) (text : Option (List ℕ)) → is_some lent ≡ false
    → lent_text lent ≡ text → text ≡ None
none_lent None text none is = sym is
none_lent (Some lent) text none is = absurd (cc)
