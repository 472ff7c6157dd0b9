-- What is owed in end tags.
use Rattle.std.proofs.Common.{◌≡◌, ℕ, ◌==◌, ◌||◌, true, false, List, [], ◌∷◌, ◌++◌, Option, Some}
use Rattle.std.proofs.Common.{None, refl, ap, sym, subst, ◌∙◌, arith, append_assoc, inl, inr}
use Rattle.std.proofs.lemmas.Bool.{eqb-true, cases_Bool}
use Rattle.std.proofs.lemmas.List.{append-nil}
use Rattle.std.proofs.lemmas.Slice.Eq.{bytes_eq-Decides}
use Rattle.dfdl_layers.specs.Tellers.{Each}
use Rattle.dfdl_xml_chars.specs.Characters.{is_name_start}
use Rattle.dfdl_markup.specs.Grammar.{is_white, Name, Plain, Prefixed, name_characters}
use Rattle.dfdl_markup.specs.Rules.{IsName, AreWhite}
use Rattle.dfdl_markup.specs.Machine.{Ahead, NothingAhead, AtContent, AtEndTag, AtEndName}
use Rattle.dfdl_markup.specs.Machine.{AtEndSpace, Reading, First, Colon, Second, name_next}
use Rattle.dfdl_markup.specs.Machine.{whole_name, Frame, Place, wanted, end_next, end_tag_step}
use Rattle.dfdl_markup.specs.Machine.{end_space_step, end_ended, end_name_or, end_name_step}
use Rattle.dfdl_markup.proofs.Rest.{reading_characters, IsReading, Wrote, Close, brackets_at}
use Rattle.dfdl_markup.proofs.Sound.{SoundFrames, SoundRoots, Sound}
use Rattle.dfdl_markup.proofs.Answers.{Good, Answer, Live, Leads, Told}
use Rattle.dfdl_markup.proofs.Closing.{Closing, close_all, grow_end, good_low, good_text}
use Rattle.dfdl_markup.proofs.Closing.{each_append, good_of_name, whole_of_close, start_a}
use Rattle.dfdl_markup.proofs.Moves.{at, malformed, reads_on, answer_if, content_at}
use Rattle.dfdl_markup.proofs.ContentSections.{each_behind}
use Rattle.dfdl_markup.proofs.NamesRead.{next_name, read_name, EndsAs}

good_end : Good 62
good_end = good_low 62 (omega arith) (omega arith)

roots_outside : (begun : ℕ) (frame : Frame) (frames : List Frame)
    → SoundRoots begun (frame ∷ frames) → SoundRoots begun frames
roots_outside begun frame [] is = omega arith
roots_outside begun frame (other ∷ frames) is = is

-- what closes the elements around the one that ends
outside : (begun : ℕ) (frame : Frame) (frames : List Frame) → SoundFrames (frame ∷ frames)
    → SoundRoots begun (frame ∷ frames) → Closing begun frames 0
outside begun frame frames sound roots =
    close_all begun frames 0 (sound.0.1, omega (arith, sound.1))
    (roots_outside begun frame frames roots)

-- an end tag with another name, which only rule 4 forbids
unlike : (ahead : Ahead) (place : Place) (begun : ℕ) (frame : Frame) (frames : List Frame) (c : ℕ)
    (name : Name) (space ending : List ℕ) → Sound (at ahead place begun (frame ∷ frames))
    → IsName name → AreWhite space → Each Good ending
    → ((raw : List ℕ) → Wrote 4 (wanted (frame ∷ frames)) place raw
    → raw ++ c ∷ ending ≡ 60 ∷ 47 ∷ (name_characters name ++ (space ++ 62 ∷ [])))
    → brackets_at place ≡ 0 → Told 4 (at ahead place begun (frame ∷ frames)) c
unlike ahead place begun frame frames c name space ending sound named white good all before =
    let closing = outside begun frame frames sound.frames sound.roots in
    record {
      more = ending ++ closing.0;
      good = each_append Good ending closing.0 good closing.1;
      from = record {
        whole = λ raw wrote.
            whole_of_close ahead 4 begun (frame ∷ frames) (brackets_at place)
            (raw ++ c ∷ (ending ++ closing.0))
            (subst (Close 4 begun (frame ∷ frames) (brackets_at place))
            (sym (same raw wrote closing.0))
            (grow_end 4 begun frame frames (brackets_at place) name space closing.0 named white
            (λ less. absurd (omega arith)) (closing.2 4)));
      };
    }
  where
    same : (raw : List ℕ) → Wrote 4 (wanted (frame ∷ frames)) place raw → (rest : List ℕ)
        → raw ++ c ∷ (ending ++ rest)
        ≡ 60 ∷ 47 ∷ (name_characters name ++ (space ++ 62 ∷ rest))
    same raw wrote rest =
        sym (append_assoc raw (c ∷ ending) rest)
        ∙ (ap (λ l. l ++ rest) (all raw wrote)
        ∙ ap (λ l. 60 ∷ 47 ∷ l)
        (append_assoc (name_characters name) (space ++ 62 ∷ []) rest
        ∙ ap (λ l. name_characters name ++ l) (append_assoc space (62 ∷ []) rest)))

-- a name as far as it was read, made whole
record MadeWhole (reading : Reading) : Type 0 where
  pub name : Name
  pub more : List ℕ
  pub is : IsReading reading → IsName name
  pub good : Each Good more
  pub characters : name_characters name ≡ reading_characters reading ++ more

made_whole : (reading : Reading) → MadeWhole reading
made_whole (First part) = record {
  name = Plain part;
  more = [];
  is = λ reading. reading;
  good = tt;
  characters = sym (append-nil part);
}
made_whole (Colon prefix) = record {
  name = Prefixed prefix (97 ∷ []);
  more = 97 ∷ [];
  is = λ reading. (reading, (start_a, tt));
  good = good_text (97 ∷ []) refl;
  characters = sym (append_assoc prefix (58 ∷ []) (97 ∷ []));
}
made_whole (Second prefix part) = record {
  name = Prefixed prefix part;
  more = [];
  is = λ reading. reading;
  good = tt;
  characters = sym (append-nil (prefix ++ 58 ∷ part));
}

-- the name goes on

-- by a character that is wanted, or by one that isn't
next_answers : (ahead : Ahead) (place : Place) (begun : ℕ) (frame : Frame) (frames : List Frame)
    (front : List ℕ) (next : Reading) (left : List ℕ) (c : ℕ)
    → Sound (at ahead place begun (frame ∷ frames)) → brackets_at place ≡ 0 → IsReading next
    → reading_characters next ≡ front ++ c ∷ [] → front ++ left ≡ wanted (frame ∷ frames)
    → ((n : ℕ) (raw : List ℕ) → Wrote n (wanted (frame ∷ frames)) place raw
    → raw ≡ 60 ∷ 47 ∷ front)
    → Answer (at ahead place begun (frame ∷ frames)) c
    (end_next (at ahead place begun (frame ∷ frames)) next left c)
next_answers ahead place begun frame frames front next left c sound before reading is want wrote =
    by_left left want
  where
    whole : MadeWhole next
    whole = made_whole next

    all : (raw : List ℕ) → raw ≡ 60 ∷ 47 ∷ front
        → raw ++ c ∷ (whole.more ++ 62 ∷ [])
        ≡ 60 ∷ 47 ∷ (name_characters whole.name ++ ([] ++ 62 ∷ []))
    all raw raw_is =
        ap (λ l. l ++ c ∷ (whole.more ++ 62 ∷ [])) raw_is
        ∙ ap (λ l. 60 ∷ 47 ∷ l)
        (sym (append_assoc front (c ∷ []) (whole.more ++ 62 ∷ []))
        ∙ (ap (λ l. l ++ (whole.more ++ 62 ∷ [])) (sym is)
        ∙ (sym (append_assoc (reading_characters next) whole.more (62 ∷ []))
        ∙ ap (λ l. l ++ 62 ∷ []) (sym whole.characters))))

    told : Told 4 (at ahead place begun (frame ∷ frames)) c
    told =
        unlike ahead place begun frame frames c whole.name [] (whole.more ++ 62 ∷ []) sound
        (whole.is reading) tt (each_append Good whole.more (62 ∷ []) whole.good (good_end, tt))
        (λ raw written. all raw (wrote 4 raw written)) before

    by_left : (left : List ℕ) → front ++ left ≡ wanted (frame ∷ frames)
        → Answer (at ahead place begun (frame ∷ frames)) c
        (end_next (at ahead place begun (frame ∷ frames)) next left c)
    by_left [] want = (omega arith, omega arith, λ less. told)
    by_left (w ∷ left) want =
        answer_if (at ahead place begun (frame ∷ frames)) c (c == w) _ _
        (λ same. reads_on ahead place (AtEndName next left) begun
        (frame ∷ frames) c sound before refl (
          tt,
          reading,
          ap (λ l. l ++ left) is
              ∙ (append_assoc front (c ∷ []) left
              ∙ (ap (λ d. front ++ d ∷ left) (eqb-true c w same) ∙ want)),
        )
        (λ n raw written. (
          ap (λ l. l ++ c ∷ []) (wrote n raw written) ∙ ap (λ l. 60 ∷ 47 ∷ l) (sym is),
          reading,
        )))
        (λ not. (omega arith, omega arith, λ less. told))

pub end_tag_answers : (ahead : Ahead) (begun : ℕ) (frames : List Frame) (c : ℕ)
    → Sound (at ahead AtEndTag begun frames)
    → Answer (at ahead AtEndTag begun frames) c
    (end_tag_step (at ahead AtEndTag begun frames) c)
unfolding end_tag_step
end_tag_answers ahead begun [] c sound = absurd sound.place
end_tag_answers ahead begun (frame ∷ frames) c sound =
    answer_if (at ahead AtEndTag begun (frame ∷ frames)) c (is_name_start c) _ _
    (λ is. next_answers ahead AtEndTag begun frame frames [] (First (c ∷ []))
    (wanted (frame ∷ frames)) c sound refl (is, tt) refl refl (λ n raw wrote. wrote))
    (λ not. malformed _ c)

-- behind the name

-- the element ends
leaves : (ahead : Ahead) (place : Place) (begun : ℕ) (frame : Frame) (frames : List Frame) (c : ℕ)
    → Sound (at ahead place begun (frame ∷ frames)) → brackets_at place ≡ 0 → c ≡ 62
    → ((n : ℕ) (raw : List ℕ) → Wrote n (wanted (frame ∷ frames)) place raw
    → Wrote n (wanted (frame ∷ frames)) AtEndSpace raw)
    → Leads (at ahead place begun (frame ∷ frames)) c (at NothingAhead (AtContent 0) begun frames)
leaves ahead place begun frame frames c sound before is wrote = record {
  sound = record {
    frames = (sound.frames.0.1, omega (arith, sound.frames.1));
    roots = roots_outside begun frame frames sound.roots;
    ahead = refl;
    place = content_at begun frames;
  };
  back = λ n text from. record {
    whole = λ raw written.
        whole_of_close ahead n begun (frame ∷ frames) (brackets_at place) (raw ++ c ∷ text)
        (grown n raw text (wrote n raw written) (from.whole [] refl));
  };
}
  where
    grown : (n : ℕ) (raw text : List ℕ) → Wrote n (wanted (frame ∷ frames)) AtEndSpace raw
        → Close n begun frames 0 text
        → Close n begun (frame ∷ frames) (brackets_at place) (raw ++ c ∷ text)
    grown n raw text written close =
        subst (Close n begun (frame ∷ frames) (brackets_at place))
        (sym
        (ap (λ l. l ++ c ∷ text) written.5
        ∙ ap (λ l. 60 ∷ 47 ∷ l)
        (append_assoc (name_characters written.0) written.1 (c ∷ text)
        ∙ ap (λ d. name_characters written.0 ++ (written.1 ++ d ∷ text)) is)))
        (grow_end n begun frame frames (brackets_at place) written.0 written.1 text written.2
        written.3
        (λ less. (bytes_eq-Decides (name_characters written.0) (name_characters frame.name)).1
        written.4)
        close)

space_answers : (ahead : Ahead) (place : Place) (begun : ℕ) (frame : Frame) (frames : List Frame)
    (c : ℕ) → Sound (at ahead place begun (frame ∷ frames)) → brackets_at place ≡ 0
    → ((n : ℕ) (raw : List ℕ) → Wrote n (wanted (frame ∷ frames)) place raw
    → Wrote n (wanted (frame ∷ frames)) AtEndSpace raw)
    → Answer (at ahead place begun (frame ∷ frames)) c
    (end_space_step (at ahead place begun (frame ∷ frames)) c)
unfolding end_space_step
space_answers ahead place begun frame frames c sound before wrote =
    answer_if (at ahead place begun (frame ∷ frames)) c (is_white c) _ _
    (λ white. reads_on ahead place AtEndSpace begun (frame ∷ frames) c sound before refl tt
    (λ n raw written. spaced n raw (wrote n raw written) white))
    (λ not. answer_if (at ahead place begun (frame ∷ frames)) c (c == 62) _ _
    (λ is. leaves ahead place begun frame frames c sound before (eqb-true c 62 is) wrote)
    (λ none. malformed _ c))
  where
    spaced : (n : ℕ) (raw : List ℕ) → Wrote n (wanted (frame ∷ frames)) AtEndSpace raw
        → is_white c ≡ true → Wrote n (wanted (frame ∷ frames)) AtEndSpace (raw ++ c ∷ [])
    spaced n raw written white = (
      written.0,
      written.1 ++ c ∷ [],
      written.2,
      each_append (λ d. is_white d ≡ true) written.1 (c ∷ []) written.3 (white, tt),
      written.4,
      ap (λ l. l ++ c ∷ []) written.5
          ∙ ap (λ l. 60 ∷ 47 ∷ l) (append_assoc (name_characters written.0) written.1 (c ∷ [])),
    )

pub end_space_answers : (ahead : Ahead) (begun : ℕ) (frames : List Frame) (c : ℕ)
    → Sound (at ahead AtEndSpace begun frames)
    → Answer (at ahead AtEndSpace begun frames) c
    (end_space_step (at ahead AtEndSpace begun frames) c)
end_space_answers ahead begun [] c sound = absurd sound.place
end_space_answers ahead begun (frame ∷ frames) c sound =
    space_answers ahead AtEndSpace begun frame frames c sound refl (λ n raw wrote. wrote)

-- the name that was read ends
ended_answers : (ahead : Ahead) (reading : Reading) (left : List ℕ) (begun : ℕ) (frame : Frame)
    (frames : List Frame) (name : Name) (c : ℕ)
    → Sound (at ahead (AtEndName reading left) begun (frame ∷ frames)) → EndsAs reading name
    → Answer (at ahead (AtEndName reading left) begun (frame ∷ frames)) c
    (end_ended left (at ahead (AtEndName reading left) begun (frame ∷ frames)) c)
ended_answers ahead reading [] begun frame frames name c sound ends =
    space_answers ahead (AtEndName reading []) begun frame frames c sound refl
    (λ n raw wrote. (
      name,
      [],
      ends.is wrote.1,
      tt,
      ends.characters ∙ (sym (append-nil (reading_characters reading)) ∙ sound.place.2),
      wrote.0 ∙ ap (λ l. 60 ∷ 47 ∷ l) (sym (append-nil (name_characters name) ∙ ends.characters)),
    ))
ended_answers ahead reading (w ∷ left) begun frame frames name c sound ends =
    answer_if (at ahead (AtEndName reading (w ∷ left)) begun (frame ∷ frames)) c
    (is_white c || c == 62) _ _
    (λ either. (omega arith, omega arith, λ less. told either)) (λ none. malformed _ c)
  where
    all : (raw space ending : List ℕ) → raw ≡ 60 ∷ 47 ∷ reading_characters reading
        → c ∷ ending ≡ space ++ 62 ∷ []
        → raw ++ c ∷ ending ≡ 60 ∷ 47 ∷ (name_characters name ++ (space ++ 62 ∷ []))
    all raw space ending is same =
        ap (λ l. l ++ c ∷ ending) (is ∙ ap (λ l. 60 ∷ 47 ∷ l) (sym ends.characters))
        ∙ ap (λ l. 60 ∷ 47 ∷ (name_characters name ++ l)) same

    told : (is_white c || c == 62) ≡ true
        → Told 4 (at ahead (AtEndName reading (w ∷ left)) begun (frame ∷ frames)) c
    told either = elim (cases_Bool (is_white c)) [
      | inl white ↦ unlike ahead (AtEndName reading (w ∷ left)) begun frame frames c name (c ∷ [])
          (62 ∷ []) sound
          (ends.is sound.place.1) (white, tt) (good_end, tt)
          (λ raw wrote. all raw (c ∷ []) (62 ∷ []) wrote.0 refl) refl
      | inr not ↦ unlike ahead (AtEndName reading (w ∷ left)) begun frame frames c name [] [] sound
          (ends.is sound.place.1) tt tt
          (λ raw wrote. all raw [] [] wrote.0 (ap (λ d. d ∷ []) (end not either))) refl
    ]
      where
        end : is_white c ≡ false → (is_white c || c == 62) ≡ true → c ≡ 62
        end not either = eqb-true c 62 (sym (ap (λ b. b || c == 62) not) ∙ either)

pub end_name_answers : (ahead : Ahead) (reading : Reading) (left : List ℕ) (begun : ℕ)
    (frames : List Frame) (c : ℕ) → Sound (at ahead (AtEndName reading left) begun frames)
    → Answer (at ahead (AtEndName reading left) begun frames) c
    (end_name_step (at ahead (AtEndName reading left) begun frames) reading left c)
unfolding end_name_step
end_name_answers ahead reading left begun [] c sound = absurd sound.place.0
end_name_answers ahead reading left begun (frame ∷ frames) c sound =
    by_next (name_next reading c) (whole_name reading) refl refl
  where
    by_next : (next : Option Reading) (whole : Option Name) → name_next reading c ≡ next
        → whole_name reading ≡ whole
        → Answer (at ahead (AtEndName reading left) begun (frame ∷ frames)) c
        (end_name_or next whole (at ahead (AtEndName reading left) begun (frame ∷ frames)) left c)
    by_next (Some next) whole is ends =
        let by = next_name reading c next is in
        next_answers ahead (AtEndName reading left) begun frame frames
        (reading_characters reading) next
        left c sound refl (by.is sound.place.1) by.characters sound.place.2 (λ n raw wrote. wrote.0)
    by_next None (Some name) is ends =
        ended_answers ahead reading left begun frame frames name c sound
        (read_name reading name ends)
    by_next None None is ends = malformed _ c

-- what goes on from there

-- the rest of the name that is wanted, and `>`
end_live : (ahead : Ahead) (place : Place) (begun : ℕ) (frame : Frame) (frames : List Frame)
    (left : List ℕ) → Sound (at ahead place begun (frame ∷ frames)) → brackets_at place ≡ 0
    → Each Good left
    → ((n : ℕ) (raw : List ℕ) → Wrote n (wanted (frame ∷ frames)) place raw
    → (name : Name) × (space : List ℕ) × IsName name × AreWhite space
    × (name_characters name ≡ wanted (frame ∷ frames))
    × (raw ++ left ≡ 60 ∷ 47 ∷ (name_characters name ++ space)))
    → Live (at ahead place begun (frame ∷ frames))
end_live ahead place begun frame frames left sound before good wrote =
    let closing = outside begun frame frames sound.frames sound.roots in
    record {
      more = left ++ 62 ∷ closing.0;
      good = each_append Good left (62 ∷ closing.0) good (good_end, closing.1);
      from = λ n. record {
        whole = λ raw written.
            whole_of_close ahead n begun (frame ∷ frames) (brackets_at place)
            (raw ++ (left ++ 62 ∷ closing.0))
            (grown n raw closing.0 (wrote n raw written) (closing.2 n));
      };
    }
  where
    grown : (n : ℕ) (raw text : List ℕ)
        → (name : Name) × (space : List ℕ) × IsName name × AreWhite space
        × (name_characters name ≡ wanted (frame ∷ frames))
        × (raw ++ left ≡ 60 ∷ 47 ∷ (name_characters name ++ space))
        → Close n begun frames 0 text
        → Close n begun (frame ∷ frames) (brackets_at place) (raw ++ (left ++ 62 ∷ text))
    grown n raw text written close =
        subst (Close n begun (frame ∷ frames) (brackets_at place))
        (sym
        (sym (append_assoc raw left (62 ∷ text))
        ∙ (ap (λ l. l ++ 62 ∷ text) written.5
        ∙ ap (λ l. 60 ∷ 47 ∷ l) (append_assoc (name_characters written.0) written.1 (62 ∷ text)))))
        (grow_end n begun frame frames (brackets_at place) written.0 written.1 text written.2
        written.3
        (λ less. (bytes_eq-Decides (name_characters written.0) (name_characters frame.name)).1
        written.4)
        close)

pub end_tag_live : (ahead : Ahead) (begun : ℕ) (frames : List Frame)
    → Sound (at ahead AtEndTag begun frames) → Live (at ahead AtEndTag begun frames)
end_tag_live ahead begun [] sound = absurd sound.place
end_tag_live ahead begun (frame ∷ frames) sound =
    end_live ahead AtEndTag begun frame frames (wanted (frame ∷ frames)) sound refl
    (good_of_name frame.name sound.frames.0.0)
    (λ n raw wrote. (
      frame.name,
      [],
      sound.frames.0.0,
      tt,
      refl,
      ap (λ l. l ++ name_characters frame.name) wrote
          ∙ ap (λ l. 60 ∷ 47 ∷ l) (sym (append-nil (name_characters frame.name))),
    ))

pub end_name_live : (ahead : Ahead) (reading : Reading) (left : List ℕ) (begun : ℕ)
    (frames : List Frame) → Sound (at ahead (AtEndName reading left) begun frames)
    → Live (at ahead (AtEndName reading left) begun frames)
end_name_live ahead reading left begun [] sound = absurd sound.place.0
end_name_live ahead reading left begun (frame ∷ frames) sound =
    end_live ahead (AtEndName reading left) begun frame frames left sound refl
    (each_behind Good (reading_characters reading) left
    (subst (Each Good) (sym sound.place.2) (good_of_name frame.name sound.frames.0.0)))
    (λ n raw wrote. (
      frame.name,
      [],
      sound.frames.0.0,
      tt,
      refl,
      ap (λ l. l ++ left) wrote.0
          ∙ ap (λ l. 60 ∷ 47 ∷ l) (sound.place.2 ∙ sym (append-nil (name_characters frame.name))),
    ))

pub end_space_live : (ahead : Ahead) (begun : ℕ) (frames : List Frame)
    → Sound (at ahead AtEndSpace begun frames) → Live (at ahead AtEndSpace begun frames)
end_space_live ahead begun [] sound = absurd sound.place
end_space_live ahead begun (frame ∷ frames) sound =
    end_live ahead AtEndSpace begun frame frames [] sound refl tt
    (λ n raw wrote. (wrote.0, wrote.1, wrote.2, wrote.3, wrote.4, append-nil raw ∙ wrote.5))
