-- What is owed between pieces of markup, and behind `<`.
use Rattle.std.proofs.Common.{◌≡◌, ◌≢◌, ℕ, zero, suc, ◌==◌, ◌&&◌, ◌≤◌, true, false, if◌then◌else◌}
use Rattle.std.proofs.Common.{List, [], ◌∷◌, ◌++◌, length, Option, Some, None, refl, ap, sym, subst}
use Rattle.std.proofs.Common.{◌∙◌, arith, inl, inr, nat_lt}
use Rattle.std.proofs.lemmas.Bool.{eqb-true, cond_both, cases_eq}
use Rattle.std.proofs.lemmas.Bool.Decides.{nat_tests}
use Rattle.dfdl_layers.specs.Tellers.{Each}
use Rattle.dfdl_xml_chars.specs.Characters.{is_name_start, low_start_rows, is_name_char}
use Rattle.dfdl_xml_chars.specs.Characters.{low_name_rows}
use Rattle.dfdl_markup.specs.Grammar.{is_white, Plain, Named, Tag, name_characters, Content}
use Rattle.dfdl_markup.specs.Grammar.{Nothing, Character, Referring, Comment, Instruction, Section}
use Rattle.dfdl_markup.specs.Grammar.{Single, Nested, spelling}
use Rattle.dfdl_markup.specs.Values.{Binding, entities}
use Rattle.dfdl_markup.specs.Rules.{is_text, brackets, deepest, ReferenceKeeps, TagKeeps}
use Rattle.dfdl_markup.specs.Rules.{ContentKeeps}
use Rattle.dfdl_markup.specs.Machine.{Ahead, MarkAhead, DeclarationAhead, NothingAhead, InContent}
use Rattle.dfdl_markup.specs.Machine.{Place, AtContent, AtOpened, AtBang, AtQuestion, AtTagName}
use Rattle.dfdl_markup.specs.Machine.{AtEndTag, AtReference, First, Frame, State, wanted, scope_of}
use Rattle.dfdl_markup.specs.Machine.{may_begin, begun_by, begin_by, inside, marked, top_step}
use Rattle.dfdl_markup.specs.Machine.{inner_step, content_step, opened_step, accepts, is_between}
use Rattle.dfdl_markup.specs.Machine.{is_outside}
use Rattle.dfdl_markup.proofs.Rest.{Wrote, Close, From, Rest, brackets_at}
use Rattle.dfdl_markup.proofs.Sound.{SoundAt, Sound, MayBegin, in_declaration}
use Rattle.dfdl_markup.proofs.Answers.{Good, Answer, Live, Leads, Told}
use Rattle.dfdl_markup.proofs.Closing.{each_append, close_all, close_few, grow_character}
use Rattle.dfdl_markup.proofs.Closing.{grow_reference, grow_single, good_text, whole_of_close}
use Rattle.dfdl_markup.proofs.Moves.{at, malformed, reads_on, reads_ahead, reads_piece, answer_if}
use Rattle.dfdl_markup.proofs.ContentSections.{brackets_most}

-- a tag of one character, which is alone in its element

abbrev short_tag : ℕ → Tag
short_tag c = record { name = Plain (c ∷ []); attributes = []; space = [] }

short_keeps : (n c : ℕ) (scope : List Binding) → is_name_start c ≡ true
    → TagKeeps n scope (short_tag c)
short_keeps n c scope start = record {
  name = (start, tt);
  given = tt;
  space = tt;
  differ = λ less. record { written = refl; expanded = refl };
  declared = λ less. (refl, tt);
}

-- an element that only a rule on its place forbids
told_short : (n : ℕ) (ahead : Ahead) (begun : ℕ) (frames : List Frame) (c : ℕ) (rest : List ℕ)
    → is_name_start c ≡ true → n ≤ 11 → Each Good rest → Close n
    (begun_by begun frames) frames 0 rest
    → Told n (at ahead AtOpened begun frames) c
told_short n ahead begun frames c rest start few good close = record {
  more = 47 ∷ 62 ∷ rest;
  good = each_append Good (47 ∷ 62 ∷ []) rest (good_text (47 ∷ 62 ∷ []) refl) good;
  from = record {
    whole = λ raw wrote.
        whole_of_close ahead n begun frames 0 (raw ++ c ∷ 47 ∷ 62 ∷ rest)
        (subst (Close n begun frames 0) (sym (ap (λ l. l ++ c ∷ 47 ∷ 62 ∷ rest) wrote))
        (grow_single n begun frames 0 (short_tag c) rest (short_keeps n c (scope_of frames) start)
        (λ less. absurd (omega arith)) close));
  };
}

-- behind `<`

begin_answers : (ahead : Ahead) (begun : ℕ) (frames : List Frame) (c : ℕ)
    → Sound (at ahead AtOpened begun frames) → is_name_start c ≡ true
    → Answer (at ahead AtOpened begun frames) c
    (begin_by (may_begin begun frames) (at ahead AtOpened begun frames) c)
begin_answers ahead begun frames c sound start = by_frames frames sound
  where
    begins : (frames : List Frame) → Sound (at ahead AtOpened begun frames) → MayBegin begun frames
        → Leads (at ahead AtOpened begun frames) c
        (at NothingAhead (AtTagName (First (c ∷ []))) begun frames)
    begins frames sound may =
        reads_on ahead AtOpened (AtTagName (First (c ∷ []))) begun frames c sound refl refl
        ((start, tt), may) (λ n raw wrote. (ap (λ l. l ++ c ∷ []) wrote, (start, tt)))

    second : Sound (at ahead AtOpened begun []) → Told 10 (at ahead AtOpened begun []) c
    second sound =
        let closing = close_few (suc begun) [] 0 sound.frames in
        told_short 10 ahead begun [] c closing.0 start (omega arith) closing.1
        (closing.2 10 (omega arith))

    deeper : (frame : Frame) (frames : List Frame) → Sound
        (at ahead AtOpened begun (frame ∷ frames))
        → Told 11 (at ahead AtOpened begun (frame ∷ frames)) c
    deeper frame frames sound =
        let closing = close_all begun (frame ∷ frames) 0 sound.frames sound.roots in
        told_short 11 ahead begun (frame ∷ frames) c closing.0 start (omega arith) closing.1
        (closing.2 11)

    by_frames : (frames : List Frame) → Sound (at ahead AtOpened begun frames)
        → Answer (at ahead AtOpened begun frames) c
        (begin_by (may_begin begun frames) (at ahead AtOpened begun frames) c)
    by_frames [] sound =
        cond_both (begun == 0) None (Some 10)
        (λ (o : Option ℕ). Answer (at ahead AtOpened begun []) c
        (begin_by o (at ahead AtOpened begun []) c))
        (λ is. begins [] sound (ap (λ b. if b then None else Some 10) is))
        (λ not. (omega arith, omega arith, λ less. second sound))
    by_frames (frame ∷ frames) sound =
        cond_both (nat_lt (suc (length frames)) deepest) None (Some 11)
        (λ (o : Option ℕ). Answer (at ahead AtOpened begun (frame ∷ frames)) c
        (begin_by o (at ahead AtOpened begun (frame ∷ frames)) c))
        (λ is. begins (frame ∷ frames) sound (ap (λ b. if b then None else Some 11) is))
        (λ not. (omega arith, omega arith, λ less. deeper frame frames sound))

end_answers : (ahead : Ahead) (begun : ℕ) (frames : List Frame) (c : ℕ)
    → Sound (at ahead AtOpened begun frames) → c ≡ 47
    → Answer (at ahead AtOpened begun frames) c
    (inside frames (at ahead AtOpened begun frames) AtEndTag)
end_answers ahead begun [] c sound is = malformed _ c
end_answers ahead begun (frame ∷ frames) c sound is =
    reads_on ahead AtOpened AtEndTag begun (frame ∷ frames) c sound refl refl tt
    (λ n raw wrote. ap (λ l. l ++ c ∷ []) wrote ∙ ap (λ d. 60 ∷ d ∷ []) is)

pub opened_answers : (ahead : Ahead) (begun : ℕ) (frames : List Frame) (c : ℕ)
    → Sound (at ahead AtOpened begun frames)
    → Answer (at ahead AtOpened begun frames) c (opened_step (at ahead AtOpened begun frames) c)
unfolding opened_step
opened_answers ahead begun frames c sound =
    answer_if (at ahead AtOpened begun frames) c (is_name_start c) _ _
    (λ start. begin_answers ahead begun frames c sound start)
    (λ no_name. answer_if (at ahead AtOpened begun frames) c (c == 47) _ _
    (λ is. end_answers ahead begun frames c sound (eqb-true c 47 is))
    (λ no_end. answer_if (at ahead AtOpened begun frames) c (c == 33) _ _
    (λ is. reads_on ahead AtOpened AtBang begun frames c sound refl refl tt
    (λ n raw wrote. ap (λ l. l ++ c ∷ []) wrote ∙ ap (λ d. 60 ∷ d ∷ []) (eqb-true c 33 is)))
    (λ no_bang. answer_if (at ahead AtOpened begun frames) c (c == 63) _ _
    (λ is. reads_ahead ahead AtOpened AtQuestion begun frames c sound refl refl refl tt
    (λ n raw wrote. ap (λ l. l ++ c ∷ []) wrote ∙ ap (λ d. 60 ∷ d ∷ []) (eqb-true c 63 is)))
    (λ none. malformed _ c))))

-- outside of the root

white_is_text : (c : ℕ) → is_white c ≡ true → is_text c ≡ true
unfolding is_white is_text
white_is_text c white = grind (arith, nat_tests)

white_no_bracket : (before c : ℕ) → is_white c ≡ true → brackets before c ≡ 0
unfolding is_white
white_no_bracket before c white = grind (arith, nat_tests)

other_is_text : (c : ℕ) → (c == 60) ≡ false → c ≢ 38 → is_text c ≡ true
unfolding is_text
other_is_text c not different = grind (arith, nat_tests)

-- the reference `lt`
lt_keeps : ReferenceKeeps 10 (Named (108 ∷ 116 ∷ []))
unfolding entities is_name_start is_name_char low_start_rows low_name_rows
lt_keeps = ((refl, (refl, tt)), λ less. refl)

-- what only rule 10 forbids there
told_top : (ahead : Ahead) (begun c : ℕ) → Sound (at ahead (AtContent 0) begun [])
    → (c == 60) ≡ false → Told 10 (at ahead (AtContent 0) begun []) c
told_top ahead begun c sound opens = elim (cases_eq c 38) [
  | inl is ↦ refers is
  | inr not ↦ stands (other_is_text c opens not)
]
  where
    refers : c ≡ 38 → Told 10 (at ahead (AtContent 0) begun []) c
    refers is =
        let closing = close_few begun [] 0 sound.frames in
        record {
          more = 108 ∷ 116 ∷ 59 ∷ closing.0;
          good = each_append Good (108 ∷ 116 ∷ 59 ∷ []) closing.0
              (good_text (108 ∷ 116 ∷ 59 ∷ []) refl) closing.1;
          from = record {
            whole = λ raw wrote.
                whole_of_close ahead 10 begun [] 0 (raw ++ c ∷ 108 ∷ 116 ∷ 59 ∷ closing.0)
                (subst (Close 10 begun [] 0)
                (sym (ap (λ l. l ++ c ∷ 108 ∷ 116 ∷ 59 ∷ closing.0) wrote
                ∙ ap (λ d. d ∷ 108 ∷ 116 ∷ 59 ∷ closing.0) is))
                (grow_reference 10 begun [] 0 (Named (108 ∷ 116 ∷ [])) closing.0 lt_keeps
                (λ less. absurd (omega arith)) (closing.2 10 (omega arith))));
          };
        }

    stands : is_text c ≡ true → Told 10 (at ahead (AtContent 0) begun []) c
    stands text =
        let closing = close_few begun [] (brackets 0 c) sound.frames in
        record {
          more = closing.0;
          good = closing.1;
          from = record {
            whole = λ raw wrote.
                whole_of_close ahead 10 begun [] 0 (raw ++ c ∷ closing.0)
                (subst (Close 10 begun [] 0) (sym (ap (λ l. l ++ c ∷ closing.0) wrote))
                (grow_character 10 begun [] 0 c closing.0 text (λ two. absurd (omega arith))
                (λ less. absurd (omega arith)) (closing.2 10 (omega arith))));
          };
        }

-- a byte order mark
mark_answers : (ahead : Ahead) (begun c : ℕ) → Sound (at ahead (AtContent 0) begun [])
    → c ≡ 0xFEFF → (c == 60) ≡ false
    → Answer (at ahead (AtContent 0) begun []) c (marked (at ahead (AtContent 0) begun []) ahead)
mark_answers MarkAhead begun c sound is opens = record {
  sound = record {
    frames = sound.frames;
    roots = sound.roots;
    ahead = (refl, sound.ahead.1, sound.ahead.2);
    place = refl;
  };
  back = λ n text from. record {
    whole = λ raw wrote. record {
      mark = true;
      rest = text;
      is = ap (λ l. l ++ c ∷ text) wrote ∙ ap (λ d. d ∷ text) is;
      declared = from.whole [] refl;
    };
  };
}
mark_answers DeclarationAhead begun c sound is opens =
    (omega arith, omega arith, λ less. told_top DeclarationAhead begun c sound opens)
mark_answers NothingAhead begun c sound is opens =
    (omega arith, omega arith, λ less. told_top NothingAhead begun c sound opens)

top_answers : (ahead : Ahead) (begun c : ℕ) → Sound (at ahead (AtContent 0) begun [])
    → Answer (at ahead (AtContent 0) begun []) c (top_step (at ahead (AtContent 0) begun []) c)
top_answers ahead begun c sound =
    answer_if (at ahead (AtContent 0) begun []) c (c == 60) _ _
    (λ is. reads_ahead ahead (AtContent 0) AtOpened begun [] c sound refl refl refl tt
    (λ n raw wrote. ap (λ l. l ++ c ∷ []) wrote ∙ ap (λ d. d ∷ []) (eqb-true c 60 is)))
    (λ opens. answer_if (at ahead (AtContent 0) begun []) c (is_white c) _ _
    (λ white. reads_piece ahead (AtContent 0) begun [] c sound
    (λ n raw rest wrote close. spaced n raw rest wrote white close))
    (λ not. answer_if (at ahead (AtContent 0) begun []) c (c == 0xFEFF) _ _
    (λ is. mark_answers ahead begun c sound (eqb-true c 0xFEFF is) opens)
    (λ none. (omega arith, omega arith, λ less. told_top ahead begun c sound opens))))
  where
    spaced : (n : ℕ) (raw rest : List ℕ) → raw ≡ [] → is_white c ≡ true → Close n begun [] 0 rest
        → Close n begun [] 0 (raw ++ c ∷ rest)
    spaced n raw rest wrote white close =
        subst (Close n begun [] 0) (sym (ap (λ l. l ++ c ∷ rest) wrote))
        (grow_character n begun [] 0 c rest (white_is_text c white) (λ two. absurd (omega arith))
        (λ less top. white)
        (subst (λ before. Close n begun [] before rest) (sym (white_no_bracket 0 c white)) close))

-- inside of the root

-- where no character that stands for itself comes, the `]` before don't matter
unbracketed : (n depth : ℕ) (scope : List Binding) (before after c : ℕ) (text rest : List ℕ)
    (content : Content) → is_text c ≡ false → c ∷ text ≡ spelling content ++ rest
    → ContentKeeps n depth scope after content → ContentKeeps n depth scope before content
unbracketed n depth scope before after c text rest Nothing marks is keeps = keeps
unbracketed n depth scope before after c text rest (Character d next) marks is keeps =
    absurd (clash (same is) keeps.0)
  where
    same : c ∷ text ≡ d ∷ (spelling next ++ rest) → c ≡ d
    same e = cc

    clash : c ≡ d → is_text d ≡ true → ⊥
    clash e stands = cc
unbracketed n depth scope before after c text rest (Referring reference next) marks is keeps = keeps
unbracketed n depth scope before after c text rest (Comment inner next) marks is keeps = keeps
unbracketed n depth scope before after c text rest
    (Instruction target inner next) marks is keeps = keeps
unbracketed n depth scope before after c text rest (Section inner next) marks is keeps = keeps
unbracketed n depth scope before after c text rest (Single tag next) marks is keeps = keeps
unbracketed n depth scope before after c text rest
    (Nested tag inner end space next) marks is keeps = keeps

unbracketed_close : (n begun : ℕ) (frame : Frame) (frames : List Frame) (before after c : ℕ)
    (text : List ℕ) → is_text c ≡ false → Close n begun (frame ∷ frames) after (c ∷ text)
    → Close n begun (frame ∷ frames) before (c ∷ text)
unbracketed_close n begun frame frames before after c text marks close = record {
  content = close.content;
  keeps = unbracketed n (suc (length frames)) frame.scope before after c text
      (60 ∷ 47 ∷ (name_characters close.name ++ (close.space ++ 62 ∷ close.rest))) close.content
      marks
      close.is close.keeps;
  name = close.name;
  space = close.space;
  rest = close.rest;
  is = close.is;
  closed = close.closed;
  white = close.white;
  ends = close.ends;
  after = close.after;
}

lt_marks : is_text 60 ≡ false
unfolding is_text
lt_marks = refl

amp_marks : is_text 38 ≡ false
unfolding is_text
amp_marks = refl

-- markup begins
marks_answers : (ahead : Ahead) (before begun : ℕ) (frame : Frame) (frames : List Frame) (c : ℕ)
    (next : Place) → Sound (at ahead (AtContent before) begun (frame ∷ frames))
    → is_text c ≡ false → in_declaration next ≡ false → brackets_at next ≡ 0
    → SoundAt next begun (frame ∷ frames)
    → ((n : ℕ) → Wrote n (wanted (frame ∷ frames)) next (c ∷ []))
    → Leads (at ahead (AtContent before) begun (frame ∷ frames)) c
    (at NothingAhead next begun (frame ∷ frames))
marks_answers ahead before begun frame frames c next sound marks outside none is wrote = record {
  sound = record { frames = sound.frames; roots = sound.roots; ahead = outside; place = is };
  back = λ n text from. record {
    whole = λ raw written.
        whole_of_close ahead n begun (frame ∷ frames) before (raw ++ c ∷ text)
        (subst (Close n begun (frame ∷ frames) before) (sym (ap (λ l. l ++ c ∷ text) written))
        (unbracketed_close n begun frame frames before (brackets_at next) c text marks
        (from.whole (c ∷ []) (wrote n))));
  };
}

inner_text : (c : ℕ) → (c == 60) ≡ false → (c == 38) ≡ false → is_text c ≡ true
unfolding is_text
inner_text c opens refers = grind (arith, nat_tests)

inner_answers : (ahead : Ahead) (before begun : ℕ) (frame : Frame) (frames : List Frame) (c : ℕ)
    → Sound (at ahead (AtContent before) begun (frame ∷ frames))
    → Answer (at ahead (AtContent before) begun (frame ∷ frames)) c
    (inner_step (at ahead (AtContent before) begun (frame ∷ frames)) before c)
inner_answers ahead before begun frame frames c sound =
    answer_if (at ahead (AtContent before) begun (frame ∷ frames)) c (c == 60) _ _
    (λ is. marks_answers ahead before begun frame frames c AtOpened sound
    (ap is_text (eqb-true c 60 is) ∙ lt_marks) refl refl tt
    (λ n. ap (λ d. d ∷ []) (eqb-true c 60 is)))
    (λ opens. answer_if (at ahead (AtContent before) begun (frame ∷ frames)) c (c == 38) _ _
    (λ is. marks_answers ahead before begun frame frames c (AtReference InContent) sound
    (ap is_text (eqb-true c 38 is) ∙ amp_marks) refl refl tt
    (λ n. ([], refl, ap (λ d. d ∷ []) (eqb-true c 38 is))))
    (λ refers. answer_if (at ahead (AtContent before) begun (frame ∷ frames)) c
    (before == 2 && c == 62) _ _
    (λ is. malformed _ c) (λ not. stands (inner_text c opens refers) not)))
  where
    no_end : (before == 2 && c == 62) ≡ false → before ≡ 2 → c ≢ 62
    no_end not two end = grind (arith, nat_tests)

    stands : is_text c ≡ true → (before == 2 && c == 62) ≡ false
        → Leads (at ahead (AtContent before) begun (frame ∷ frames)) c
        (at NothingAhead (AtContent (brackets before c)) begun (frame ∷ frames))
    stands text not = record {
      sound = record {
        frames = sound.frames;
        roots = sound.roots;
        ahead = refl;
        place = brackets_most before c;
      };
      back = λ n rest from. record {
        whole = λ raw wrote.
            whole_of_close ahead n begun (frame ∷ frames) before (raw ++ c ∷ rest)
            (subst (Close n begun (frame ∷ frames) before) (sym (ap (λ l. l ++ c ∷ rest) wrote))
            (grow_character n begun (frame ∷ frames) before c rest text (no_end not)
            (λ less top. absurd (omega arith)) (from.whole [] refl)));
      };
    }

pub content_answers : (ahead : Ahead) (before begun : ℕ) (frames : List Frame) (c : ℕ)
    → Sound (at ahead (AtContent before) begun frames)
    → Answer (at ahead (AtContent before) begun frames) c
    (content_step (at ahead (AtContent before) begun frames) before c)
unfolding content_step
content_answers ahead zero begun [] c sound = top_answers ahead begun c sound
content_answers ahead (suc before) begun [] c sound = absurd (omega (arith, sound.place))
content_answers ahead before begun (frame ∷ frames) c sound =
    inner_answers ahead before begun frame frames c sound

pub content_live : (ahead : Ahead) (before begun : ℕ) (frames : List Frame)
    → Sound (at ahead (AtContent before) begun frames)
    → Live (at ahead (AtContent before) begun frames)
content_live ahead before begun frames sound =
    let closing = close_all begun frames before sound.frames sound.roots in
    record {
      more = closing.0;
      good = closing.1;
      from = λ n. record {
        whole = λ raw wrote.
            whole_of_close ahead n begun frames before (raw ++ closing.0)
            (subst (Close n begun frames before) (sym (ap (λ l. l ++ closing.0) wrote))
            (closing.2 n));
      };
    }

-- nothing may follow where the document may end
done_at : (ahead : Ahead) (place : Place) (begun : ℕ) (frames : List Frame)
    → (is_between place && (is_outside frames && begun == 1)) ≡ true
    → From 13 (at ahead place begun frames) []
done_at ahead (AtContent before) begun [] is = record {
  whole = λ raw wrote.
      whole_of_close ahead 13 begun [] before (raw ++ [])
      (subst (Close 13 begun [] before) (sym (ap (λ l. l ++ []) wrote))
      (record {
        content = Nothing;
        is = refl;
        keeps = tt;
        one_root = λ less. omega (arith, eqb-true begun 1 is);
      }));
}
done_at ahead (AtContent before) begun (frame ∷ frames) is = absurd (cc)
done_at ahead place begun frames is = absurd (cc)

pub content_done : (s : State) → Sound s → accepts s ≡ true → Rest 13 s []
unfolding accepts
content_done s sound is less = done_at s.ahead s.place s.begun s.frames is
