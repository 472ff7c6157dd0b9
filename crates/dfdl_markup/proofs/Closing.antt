-- How a document ends from any place in it, and what a piece of markup makes of the rest.
use Rattle.std.proofs.Common.{◌≡◌, ℕ, zero, suc, ◌+◌, ◌<◌, ◌≤◌, ◌||◌, ◌&&◌, ◌≢◌, true, false}
use Rattle.std.proofs.Common.{nat_le, nat_lt, List, [], ◌∷◌, ◌++◌, length, Option, Some, None, refl}
use Rattle.std.proofs.Common.{ap, sym, subst, ◌∙◌, arith, inl, inr, append_assoc}
use Rattle.std.specs.List.{list_all}
use Rattle.std.proofs.lemmas.Bool.{cases_Bool, cond_both, ltb-true, and_parts}
use Rattle.std.proofs.lemmas.Bool.Decides.{nat_tests}
use Rattle.std.proofs.lemmas.Slice.Eq.{bytes_eq-Decides}
use Rattle.std.specs.Char.{IsScalar}
use Rattle.dfdl_layers.specs.Tellers.{Each}
use Rattle.dfdl_xml_chars.specs.Characters.{is_in, is_allowed, is_name_start, is_name_char}
use Rattle.dfdl_xml_chars.specs.Characters.{char_rows, low_name_rows, low_start_rows}
use Rattle.dfdl_xml_chars.specs.Characters.{high_name_rows, high_start_rows, high_mark_rows}
use Rattle.dfdl_xml_chars.proofs.Tables.{allowed_in, name_rows_allowed, in_others}
use Rattle.dfdl_markup.specs.Grammar.{is_white, Name, Plain, Prefixed, name_characters, Tag}
use Rattle.dfdl_markup.specs.Grammar.{tag_characters, Content, Nothing, Character, Referring}
use Rattle.dfdl_markup.specs.Grammar.{Comment, Instruction, Section, Single, Nested, spelling}
use Rattle.dfdl_markup.specs.Grammar.{Reference, reference_characters, section_word, Declaration}
use Rattle.dfdl_markup.specs.Grammar.{declaration_characters}
use Rattle.dfdl_markup.specs.Values.{outer_scope, same_name, scope_in}
use Rattle.dfdl_markup.specs.Rules.{IsPart, IsName, AreWhite, TagKeeps, attributes_of, ContentKeeps}
use Rattle.dfdl_markup.specs.Rules.{roots, brackets, is_text, deepest, MayDeclareItself}
use Rattle.dfdl_markup.specs.Rules.{ReferenceKeeps, IsCommentText, IsTarget, IsInstructionText}
use Rattle.dfdl_markup.specs.Rules.{HasNoEnd}
use Rattle.dfdl_markup.specs.Machine.{StartTag, Ahead, MarkAhead, DeclarationAhead, NothingAhead}
use Rattle.dfdl_markup.specs.Machine.{Frame, State, Place, stand, go, scope_of, wanted, begun_by}
use Rattle.dfdl_markup.specs.Machine.{frame_of, may_declare}
use Rattle.dfdl_markup.proofs.Rest.{Wrote, Inner, Close, Whole, brackets_at, From}
use Rattle.dfdl_markup.proofs.Sound.{SoundFrames, SoundRoots, MayBegin}
use Rattle.dfdl_markup.proofs.Answers.{Good}

-- the characters that are given

low_scalar : (c : ℕ) → is_in low_name_rows c ≡ true → IsScalar c
unfolding low_name_rows low_start_rows
low_scalar c within = grind (arith, nat_tests)

high_scalar : (c : ℕ) → is_in high_name_rows c ≡ true → IsScalar c
unfolding high_name_rows high_mark_rows high_start_rows
high_scalar c within = grind (arith, nat_tests)

low_allowed : (c : ℕ) → is_in low_name_rows c ≡ true → is_allowed c ≡ true
unfolding is_allowed low_name_rows low_start_rows char_rows
low_allowed c within = in_others low_name_rows char_rows c refl within

-- characters of names are
pub good_name : (c : ℕ) → is_name_char c ≡ true → Good c
unfolding is_name_char
good_name c is = elim (cases_Bool (is_in low_name_rows c)) [
  | inl low ↦ (low_scalar c low, low_allowed c low)
  | inr high ↦ (
      let within : is_in high_name_rows c ≡ true =
      sym (ap (λ b. b || is_in high_name_rows c) high) ∙ is in
      (high_scalar c within, allowed_in high_name_rows c name_rows_allowed within))
]

pub start_is_char : (c : ℕ) → is_name_start c ≡ true → is_name_char c ≡ true
unfolding is_name_start is_name_char low_name_rows high_name_rows high_mark_rows
start_is_char c is = grind (arith, nat_tests)

-- and so are those that stand below
pub good_low : (c : ℕ) → 32 ≤ c → c < 128 → Good c
unfolding is_allowed char_rows
good_low c least less = (grind (arith, nat_tests), grind (arith, nat_tests))

pub good_text : (text : List ℕ) → list_all (λ c. nat_le 32 c && nat_lt c 128) text ≡ true
    → Each Good text
good_text [] all = tt
good_text (c ∷ text) all =
    let both = and_parts (nat_le 32 c && nat_lt c 128)
    (list_all (λ d. nat_le 32 d && nat_lt d 128) text) all in
    (good_between c both.0, good_text text both.1)
  where
    good_between : (d : ℕ) → (nat_le 32 d && nat_lt d 128) ≡ true → Good d
    good_between d is = good_low d (grind (arith, nat_tests)) (grind (arith, nat_tests))

pub good_each : (text : List ℕ) → Each (λ c. is_name_char c ≡ true) text → Each Good text
good_each [] each = tt
good_each (c ∷ text) each = (good_name c each.0, good_each text each.1)

pub each_append : (P : ℕ → Type 0) (a b : List ℕ) → Each P a → Each P b → Each P (a ++ b)
each_append P [] b first second = second
each_append P (c ∷ a) b first second = (first.0, each_append P a b first.1 second)

pub good_part : (part : List ℕ) → IsPart part → Each Good part
good_part [] is = absurd is
good_part (c ∷ part) is = (good_name c (start_is_char c is.0), good_each part is.1)

pub good_of_name : (name : Name) → IsName name → Each Good (name_characters name)
good_of_name (Plain part) is = good_part part is
good_of_name (Prefixed prefix part) is =
    each_append Good prefix (58 ∷ part) (good_part prefix is.0)
    (good_low 58 (omega arith) (omega arith), good_part part is.1)

-- names are alike where they are one
pub same_self : (name : Name) → same_name name name ≡ true
same_self name = (bytes_eq-Decides (name_characters name) (name_characters name)).1 refl

-- the end tags of all open elements

-- good characters that close what is open and end the document
abbrev pub Closing : ℕ → List Frame → ℕ → Type 0
Closing begun frames before =
    (more : List ℕ) × Each Good more × ((n : ℕ) → Close n begun frames before more)

-- by some of the rules
abbrev ClosingBy : (ℕ → Type 0) → ℕ → List Frame → ℕ → Type 0
ClosingBy Rules begun frames before =
    (more : List ℕ) × Each Good more × ((n : ℕ) → Rules n → Close n begun frames before more)

-- by the rules below 10
abbrev pub ClosingFew : ℕ → List Frame → ℕ → Type 0
ClosingFew begun frames before =
    (more : List ℕ) × Each Good more × ((n : ℕ) → n ≤ 10 → Close n begun frames before more)

-- the end tag of an element, in front of what closes the others
close_one : (Rules : ℕ → Type 0) (begun before : ℕ) (frame : Frame) (frames : List Frame)
    → IsName frame.name → ClosingBy Rules begun frames 0
    → ClosingBy Rules begun (frame ∷ frames) before
close_one Rules begun before frame frames named others = (
  60 ∷ 47 ∷ (name_characters frame.name ++ 62 ∷ others.0),
  each_append Good (60 ∷ 47 ∷ name_characters frame.name) (62 ∷ others.0) good_start
      (good_low 62 (omega arith) (omega arith), others.1),
  λ n keeps. record {
    content = Nothing;
    keeps = tt;
    name = frame.name;
    space = [];
    rest = others.0;
    is = refl;
    closed = named;
    white = tt;
    ends = λ less. same_self frame.name;
    after = others.2 n keeps;
  },
)
  where
    good_start : Each Good (60 ∷ 47 ∷ name_characters frame.name)
    good_start =
        each_append Good (60 ∷ 47 ∷ []) (name_characters frame.name)
        (good_text (60 ∷ 47 ∷ []) refl) (good_of_name frame.name named)

-- all end tags, in front of what ends the document
close_frames : (Rules : ℕ → Type 0) (begun : ℕ) (frames : List Frame) (before : ℕ)
    → SoundFrames frames → ((b : ℕ) → ClosingBy Rules begun [] b)
    → ClosingBy Rules begun frames before
close_frames Rules begun [] before sound top = top before
close_frames Rules begun (frame ∷ frames) before sound top =
    close_one Rules begun before frame frames sound.0.0
    (close_frames Rules begun frames 0 (sound.0.1, omega (arith, sound.1)) top)

-- the element `a`
abbrev root_tag : Tag
root_tag = record { name = Plain (97 ∷ []); attributes = []; space = [] }

pub start_a : is_name_start 97 ≡ true
unfolding is_name_start low_start_rows
start_a = refl

root_keeps : (n : ℕ) → TagKeeps n outer_scope root_tag
root_keeps n = record {
  name = (start_a, tt);
  given = tt;
  space = tt;
  differ = λ less. record { written = refl; expanded = refl };
  declared = λ less. (refl, tt);
}

root_deep : 0 < deepest
unfolding deepest
root_deep = omega arith

-- the root, if it was not read
close_top : (begun before : ℕ) → begun ≤ 1 → ClosingBy (λ n. Unit {0}) begun [] before
close_top zero before most = (
  60 ∷ 97 ∷ 47 ∷ 62 ∷ [],
  good_text (60 ∷ 97 ∷ 47 ∷ 62 ∷ []) refl,
  λ n keeps. record {
    content = Single root_tag Nothing;
    is = refl;
    keeps = (root_keeps n, λ less. root_deep, tt);
    one_root = λ less. refl;
  },
)
close_top (suc zero) before most = (
  [],
  tt,
  λ n keeps. record { content = Nothing; is = refl; keeps = tt; one_root = λ less. refl },
)
close_top (suc (suc begun)) before most = absurd (omega arith)

few_roots : (begun : ℕ) (frames : List Frame) → SoundRoots begun frames → begun ≤ 1
few_roots begun [] roots = roots
few_roots begun (frame ∷ frames) roots = omega arith

-- what closes all that is open, by all rules
pub close_all : (begun : ℕ) (frames : List Frame) (before : ℕ) → SoundFrames frames
    → SoundRoots begun frames → Closing begun frames before
close_all begun frames before sound roots =
    let closing = close_frames (λ n. Unit {0}) begun frames before sound
    (λ b. close_top begun b (few_roots begun frames roots)) in
    (closing.0, closing.1, λ n. closing.2 n tt)

-- what closes it by the rules below 10, however many roots there are
pub close_few : (begun : ℕ) (frames : List Frame) (before : ℕ) → SoundFrames frames
    → ClosingFew begun frames before
close_few begun frames before sound =
    close_frames (λ n. n ≤ 10) begun frames before sound
    (λ b. (
      [],
      tt,
      λ n few. record {
        content = Nothing;
        is = refl;
        keeps = tt;
        one_root = λ less. absurd (omega arith);
      },
    ))

-- what may come before all else need not

pub whole_of_close : (ahead : Ahead) (n begun : ℕ) (frames : List Frame) (before : ℕ)
    (text : List ℕ) → Close n begun frames before text → Whole ahead n begun frames before text
whole_of_close NothingAhead n begun frames before text close = close
whole_of_close DeclarationAhead n begun frames before text close =
    record { declaration = None; rest = text; is = refl; keeps = tt; close = close }
whole_of_close MarkAhead n begun frames before text close =
    record {
      mark = false;
      rest = text;
      is = refl;
      declared = record { declaration = None; rest = text; is = refl; keeps = tt; close = close };
    }

-- behind a declaration, where one may come
pub whole_of_declaration : (ahead : Ahead) (n begun : ℕ) (frames : List Frame) (before : ℕ)
    (declaration : Declaration) (text : List ℕ) → may_declare ahead ≡ true
    → MayDeclareItself n (Some declaration) → Close n begun frames before text
    → Whole ahead n begun frames before (declaration_characters (Some declaration) ++ text)
whole_of_declaration NothingAhead n begun frames before declaration text may keeps close =
    absurd (cc)
whole_of_declaration DeclarationAhead n begun frames before declaration text may keeps close =
    record { declaration = Some declaration; rest = text; is = refl; keeps = keeps; close = close }
whole_of_declaration MarkAhead n begun frames before declaration text may keeps close =
    record {
      mark = false;
      rest = declaration_characters (Some declaration) ++ text;
      is = refl;
      declared = record {
        declaration = Some declaration;
        rest = text;
        is = refl;
        keeps = keeps;
        close = close;
      };
    }

-- a step that only reads on

shifted : (raw : List ℕ) (c : ℕ) (text : List ℕ) → (raw ++ c ∷ []) ++ text ≡ raw ++ c ∷ text
shifted raw c text = append_assoc raw (c ∷ []) text

-- behind which the document may no longer be declared
pub moves : (s : State) (place : Place) (c : ℕ) → brackets_at s.place ≡ brackets_at place
    → ((n : ℕ) (raw : List ℕ) → Wrote n (wanted s.frames) s.place raw
    → Wrote n (wanted s.frames) place (raw ++ c ∷ []))
    → (n : ℕ) (text : List ℕ) → From n (stand s place) text → From n s (c ∷ text)
moves s place c same wrote n text from = record {
  whole = λ raw w.
      whole_of_close s.ahead n s.begun s.frames (brackets_at s.place) (raw ++ c ∷ text)
      (subst (Close n s.begun s.frames (brackets_at s.place)) (shifted raw c text)
      (subst (λ before. Close n s.begun s.frames before ((raw ++ c ∷ []) ++ text)) (sym same)
      (from.whole (raw ++ c ∷ []) (wrote n raw w))));
}

-- and behind which it may
pub moves_on : (s : State) (place : Place) (c : ℕ) → brackets_at s.place ≡ brackets_at place
    → ((n : ℕ) (raw : List ℕ) → Wrote n (wanted s.frames) s.place raw
    → Wrote n (wanted s.frames) place (raw ++ c ∷ []))
    → (n : ℕ) (text : List ℕ) → From n (go s place) text → From n s (c ∷ text)
moves_on s place c same wrote n text from = record {
  whole = λ raw w.
      subst (Whole s.ahead n s.begun s.frames (brackets_at s.place)) (shifted raw c text)
      (subst (λ before. Whole s.ahead n s.begun s.frames before ((raw ++ c ∷ []) ++ text))
      (sym same)
      (from.whole (raw ++ c ∷ []) (wrote n raw w)));
}

-- a piece of markup in front of a content

-- inside of the root
grow_inner : (n : ℕ) (before after depth : ℕ) (frame : Frame) (After : List ℕ → Type 0)
    (with_piece : Content → Content) (piece rest : List ℕ)
    → ((content : Content) → spelling (with_piece content) ≡ piece ++ spelling content)
    → ((content : Content) → ContentKeeps n depth frame.scope after content
    → ContentKeeps n depth frame.scope before (with_piece content))
    → Inner n after depth frame After rest → Inner n before depth frame After (piece ++ rest)
grow_inner n before after depth frame After with_piece piece rest spelled kept close = record {
  content = with_piece close.content;
  keeps = kept close.content close.keeps;
  name = close.name;
  space = close.space;
  rest = close.rest;
  is =
      ap (λ l. piece ++ l) close.is
      ∙ (sym (append_assoc piece (spelling close.content) behind)
      ∙ ap (λ l. l ++ behind) (sym (spelled close.content)));
  closed = close.closed;
  white = close.white;
  ends = close.ends;
  after = close.after;
}
  where
    behind : List ℕ
    behind = 60 ∷ 47 ∷ (name_characters close.name ++ (close.space ++ 62 ∷ close.rest))

-- one that is no element
pub grow : (n begun : ℕ) (frames : List Frame) (before after : ℕ) (with_piece : Content → Content)
    (piece rest : List ℕ)
    → ((content : Content) → spelling (with_piece content) ≡ piece ++ spelling content)
    → ((content : Content) → roots (with_piece content) ≡ roots content)
    → ((content : Content) → ContentKeeps n (length frames) (scope_of frames) after content
    → ContentKeeps n (length frames) (scope_of frames) before (with_piece content))
    → Close n begun frames after rest → Close n begun frames before (piece ++ rest)
grow n begun [] before after with_piece piece rest spelled counted kept close = record {
  content = with_piece close.content;
  is = ap (λ l. piece ++ l) close.is ∙ sym (spelled close.content);
  keeps = kept close.content close.keeps;
  one_root = λ less. ap (λ m. begun + m) (counted close.content) ∙ close.one_root less;
}
grow n begun (frame ∷ frames) before after with_piece piece rest spelled counted kept close =
    grow_inner n before after (suc (length frames)) frame (Close n begun frames 0) with_piece piece
    rest spelled kept close

-- an element
grow_element : (n begun : ℕ) (frames : List Frame) (before : ℕ) (with_piece : Content → Content)
    (piece rest : List ℕ)
    → ((content : Content) → spelling (with_piece content) ≡ piece ++ spelling content)
    → ((content : Content) → roots (with_piece content) ≡ suc (roots content))
    → ((content : Content) → ContentKeeps n (length frames) (scope_of frames) 0 content
    → ContentKeeps n (length frames) (scope_of frames) before (with_piece content))
    → Close n (begun_by begun frames) frames 0 rest → Close n begun frames before (piece ++ rest)
grow_element n begun [] before with_piece piece rest spelled counted kept close = record {
  content = with_piece close.content;
  is = ap (λ l. piece ++ l) close.is ∙ sym (spelled close.content);
  keeps = kept close.content close.keeps;
  one_root = λ less. omega (arith, counted close.content, close.one_root less);
}
grow_element n begun (frame ∷ frames) before with_piece piece rest spelled counted kept close =
    grow_inner n before 0 (suc (length frames)) frame (Close n begun frames 0) with_piece piece rest
    spelled kept close

pub grow_character : (n begun : ℕ) (frames : List Frame) (before c : ℕ) (rest : List ℕ)
    → is_text c ≡ true → (before ≡ 2 → c ≢ 62)
    → (10 < n → length frames ≡ 0 → is_white c ≡ true)
    → Close n begun frames (brackets before c) rest → Close n begun frames before (c ∷ rest)
grow_character n begun frames before c rest text no_end white =
    grow n begun frames before (brackets before c) (Character c) (c ∷ []) rest (λ content. refl)
    (λ content. refl) (λ content keeps. (text, no_end, white, keeps))

pub grow_reference : (n begun : ℕ) (frames : List Frame) (before : ℕ) (reference : Reference)
    (rest : List ℕ) → ReferenceKeeps n reference → (10 < n → 0 < length frames)
    → Close n begun frames 0 rest
    → Close n begun frames before (reference_characters reference ++ rest)
grow_reference n begun frames before reference rest keeps inside =
    grow n begun frames before 0 (Referring reference) (reference_characters reference) rest
    (λ content. refl) (λ content. refl) (λ content kept. (keeps, inside, kept))

pub grow_comment : (n begun : ℕ) (frames : List Frame) (before : ℕ) (text rest : List ℕ)
    → IsCommentText false text → Close n begun frames 0 rest
    → Close n begun frames before (60 ∷ 33 ∷ 45 ∷ 45 ∷ (text ++ 45 ∷ 45 ∷ 62 ∷ rest))
grow_comment n begun frames before text rest is close =
    subst (λ l. Close n begun frames before (60 ∷ 33 ∷ 45 ∷ 45 ∷ l))
    (append_assoc text (45 ∷ 45 ∷ 62 ∷ []) rest)
    (grow n begun frames before 0 (Comment text)
    (60 ∷ 33 ∷ 45 ∷ 45 ∷ (text ++ 45 ∷ 45 ∷ 62 ∷ [])) rest
    (λ content. ap (λ l. 60 ∷ 33 ∷ 45 ∷ 45 ∷ l)
    (sym (append_assoc text (45 ∷ 45 ∷ 62 ∷ []) (spelling content))))
    (λ content. refl) (λ content kept. (is, kept)) close)

pub grow_instruction : (n begun : ℕ) (frames : List Frame) (before : ℕ)
    (target text rest : List ℕ) → IsTarget target → IsInstructionText text
    → Close n begun frames 0 rest
    → Close n begun frames before (60 ∷ 63 ∷ (target ++ (text ++ 63 ∷ 62 ∷ rest)))
grow_instruction n begun frames before target text rest is_target is close =
    subst (λ l. Close n begun frames before (60 ∷ 63 ∷ l)) (regrouped rest)
    (grow n begun frames before 0 (Instruction target text)
    (60 ∷ 63 ∷ (target ++ (text ++ 63 ∷ 62 ∷ []))) rest
    (λ content. ap (λ l. 60 ∷ 63 ∷ l) (sym (regrouped (spelling content)))) (λ content. refl)
    (λ content kept. (is_target, is, kept)) close)
  where
    regrouped : (more : List ℕ)
        → (target ++ (text ++ 63 ∷ 62 ∷ [])) ++ more ≡ target ++ (text ++ 63 ∷ 62 ∷ more)
    regrouped more =
        append_assoc target (text ++ 63 ∷ 62 ∷ []) more
        ∙ ap (λ l. target ++ l) (append_assoc text (63 ∷ 62 ∷ []) more)

pub grow_section : (n begun : ℕ) (frames : List Frame) (before : ℕ) (text rest : List ℕ)
    → 0 < length frames → HasNoEnd 0 text → Close n begun frames 0 rest
    → Close n begun frames before
    (60 ∷ 33 ∷ 91 ∷ (section_word ++ (text ++ 93 ∷ 93 ∷ 62 ∷ rest)))
grow_section n begun frames before text rest inside is close =
    subst (λ l. Close n begun frames before (60 ∷ 33 ∷ 91 ∷ l)) (regrouped rest)
    (grow n begun frames before 0 (Section text)
    (60 ∷ 33 ∷ 91 ∷ (section_word ++ (text ++ 93 ∷ 93 ∷ 62 ∷ []))) rest
    (λ content. ap (λ l. 60 ∷ 33 ∷ 91 ∷ l) (sym (regrouped (spelling content)))) (λ content. refl)
    (λ content kept. (inside, is, kept)) close)
  where
    regrouped : (more : List ℕ)
        → (section_word ++ (text ++ 93 ∷ 93 ∷ 62 ∷ [])) ++ more
        ≡ section_word ++ (text ++ 93 ∷ 93 ∷ 62 ∷ more)
    regrouped more =
        append_assoc section_word (text ++ 93 ∷ 93 ∷ 62 ∷ []) more
        ∙ ap (λ l. section_word ++ l) (append_assoc text (93 ∷ 93 ∷ 62 ∷ []) more)

-- an element may stand where its tag may begin
pub may_deep : (begun : ℕ) (frames : List Frame) → MayBegin begun frames → length frames < deepest
may_deep begun [] may = root_deep
may_deep begun (frame ∷ frames) may =
    cond_both (nat_lt (suc (length frames)) deepest) None (Some 11)
    (λ (o : Option ℕ). o ≡ None → suc (length frames) < deepest)
    (λ less none. ltb-true (suc (length frames)) deepest less) (λ not_less none. absurd (cc)) may

pub grow_single : (n begun : ℕ) (frames : List Frame) (before : ℕ) (tag : Tag) (rest : List ℕ)
    → TagKeeps n (scope_of frames) tag → (11 < n → length frames < deepest)
    → Close n (begun_by begun frames) frames 0 rest
    → Close n begun frames before (60 ∷ (tag_characters tag ++ 47 ∷ 62 ∷ rest))
grow_single n begun frames before tag rest keeps deep close =
    subst (λ l. Close n begun frames before (60 ∷ l))
    (append_assoc (tag_characters tag) (47 ∷ 62 ∷ []) rest)
    (grow_element n begun frames before (Single tag)
    (60 ∷ (tag_characters tag ++ 47 ∷ 62 ∷ [])) rest
    (λ content. ap (λ l. 60 ∷ l)
    (sym (append_assoc (tag_characters tag) (47 ∷ 62 ∷ []) (spelling content))))
    (λ content. refl) (λ content kept. (keeps, deep, kept)) close)

pub grow_nested : (n begun : ℕ) (frames : List Frame) (before : ℕ) (tag : StartTag) (t : Tag)
    (rest : List ℕ) → t.name ≡ tag.name → attributes_of t ≡ tag.attributes
    → TagKeeps n (scope_of frames) t → (11 < n → length frames < deepest)
    → Close n (begun_by begun frames) (frame_of frames tag ∷ frames) 0 rest
    → Close n begun frames before (60 ∷ (tag_characters t ++ 62 ∷ rest))
grow_nested n begun frames before tag t rest named has keeps deep close =
    subst (Close n begun frames before)
    (regrouped close.rest ∙ ap (λ l. 60 ∷ (tag_characters t ++ 62 ∷ l)) (sym close.is))
    (grow_element n begun frames before (Nested t close.content close.name close.space)
    (60 ∷ (tag_characters t ++ 62 ∷ (spelling close.content
    ++ 60 ∷ 47 ∷ (name_characters close.name ++ (close.space ++ 62 ∷ []))))) close.rest
    (λ content. sym (regrouped (spelling content))) (λ content. refl)
    (λ content kept. (keeps, deep, inner_keeps, close.closed, close.white, same_end, kept))
    close.after)
  where
    inner_keeps : ContentKeeps n (suc (length frames))
        (scope_in (attributes_of t) (scope_of frames)) 0 close.content
    inner_keeps =
        subst
        (λ attributes. ContentKeeps n (suc (length frames))
        (scope_in attributes (scope_of frames)) 0 close.content)
        (sym has) close.keeps

    same_end : 4 < n → same_name close.name t.name ≡ true
    same_end less = ap (same_name close.name) named ∙ close.ends less

    regrouped : (more : List ℕ)
        → (60 ∷ (tag_characters t ++ 62 ∷ (spelling close.content
        ++ 60 ∷ 47 ∷ (name_characters close.name ++ (close.space ++ 62 ∷ []))))) ++ more
        ≡ 60 ∷ (tag_characters t ++ 62 ∷ (spelling close.content
        ++ 60 ∷ 47 ∷ (name_characters close.name ++ (close.space ++ 62 ∷ more))))
    regrouped more =
        ap (λ l. 60 ∷ l)
        (append_assoc (tag_characters t) (62 ∷ (spelling close.content
        ++ 60 ∷ 47 ∷ (name_characters close.name ++ (close.space ++ 62 ∷ [])))) more
        ∙ ap (λ l. tag_characters t ++ 62 ∷ l)
        (append_assoc (spelling close.content) (60 ∷ 47
        ∷ (name_characters close.name ++ (close.space ++ 62 ∷ []))) more
        ∙ ap (λ l. spelling close.content ++ 60 ∷ 47 ∷ l)
        (append_assoc (name_characters close.name) (close.space ++ 62 ∷ []) more
        ∙ ap (λ l. name_characters close.name ++ l) (append_assoc close.space (62 ∷ []) more))))

-- an end tag, in front of what comes behind its element
pub grow_end : (n begun : ℕ) (frame : Frame) (frames : List Frame) (before : ℕ) (name : Name)
    (space rest : List ℕ) → IsName name → AreWhite space
    → (4 < n → same_name name frame.name ≡ true) → Close n begun frames 0 rest
    → Close n begun (frame ∷ frames) before
    (60 ∷ 47 ∷ (name_characters name ++ (space ++ 62 ∷ rest)))
grow_end n begun frame frames before name space rest closed white ends close = record {
  content = Nothing;
  keeps = tt;
  name = name;
  space = space;
  rest = rest;
  is = refl;
  closed = closed;
  white = white;
  ends = ends;
  after = close;
}
