-- XML declarations: what each step answers, and that some text ends the document from each place.
use Rattle.std.proofs.Common.{◌≡◌, ℕ, ◌==◌, ◌||◌, Bool, true, false, List, [], ◌∷◌, ◌++◌}
use Rattle.std.proofs.Common.{Option, Some, None, Ok, Err, map, refl, sym, ap, subst, ◌∙◌, arith}
use Rattle.std.proofs.Common.{append_assoc, append-nil, if◌then◌else◌, inl, inr}
use Rattle.std.specs.List.{list_any}
use Rattle.std.specs.Str.{bytes_eq}
use Rattle.std.proofs.lemmas.List.{map-append}
use Rattle.std.proofs.lemmas.Bool.{cond_both, eqb-true, or_cases}
use Rattle.dfdl_markup.specs.Grammar.{is_white, is_quote, Said, Version, Encoding, Standalone}
use Rattle.dfdl_markup.specs.Grammar.{said_word}
use Rattle.dfdl_markup.specs.Rules.{is_encoding_character}
use Rattle.dfdl_markup.specs.Machine.{Place, AtContent, AtDeclaration, AtSaidWord, AtSaid}
use Rattle.dfdl_markup.specs.Machine.{AtSaidEquals, AtSaidValue, AtDeclarationEnd, Ahead, MarkAhead}
use Rattle.dfdl_markup.specs.Machine.{DeclarationAhead, NothingAhead, Frame, begins, said_character}
use Rattle.dfdl_markup.specs.Machine.{said_values, tail, wanted, said_next, said_begun}
use Rattle.dfdl_markup.specs.Machine.{declaration_ending, declaration_step, said_step}
use Rattle.dfdl_markup.specs.Machine.{said_word_step, said_equals_step, said_fault, said_value_step}
use Rattle.dfdl_markup.specs.Machine.{declaration_end_step}
use Rattle.dfdl_markup.proofs.Rest.{WroteSaying, Wrote, From, brackets_at}
use Rattle.dfdl_markup.proofs.Sound.{SoundAhead, in_declaration, Sound}
use Rattle.dfdl_markup.proofs.Answers.{Good, Told, Live, Answer, live_by}
use Rattle.dfdl_markup.proofs.Closing.{good_low, each_append}
use Rattle.dfdl_markup.proofs.Moves.{at, malformed}
use Rattle.dfdl_markup.proofs.TagEnds.{good_quote}
use Rattle.dfdl_markup.proofs.ReferenceAnswers.{behind_in_content}
use Rattle.dfdl_markup.proofs.DeclarationForms.{SaidKeeps}
use Rattle.dfdl_markup.proofs.DeclarationValues.{goes_on, is_said, encoding_so_far, said_keeps}
use Rattle.dfdl_markup.proofs.DeclarationValues.{OnWord, BeginsWord, word_begins, left_good}
use Rattle.dfdl_markup.proofs.DeclarationSteps.{reads_by, leads_white, leads_ending, leads_begun}
use Rattle.dfdl_markup.proofs.DeclarationSteps.{leads_word, leads_said, leads_equals, leads_after}
use Rattle.dfdl_markup.proofs.DeclarationSteps.{leads_quote, leads_value, value_closed}
use Rattle.dfdl_markup.proofs.DeclarationSteps.{leads_closed, leads_content}

quote_is : is_quote 34 ≡ true
unfolding is_quote
quote_is = refl

white_is : is_white 32 ≡ true
unfolding is_white
white_is = refl

version_begins : BeginsWord None 118 Version
version_begins = word_begins None 118

word_said : (n : ℕ) (said : Said) (word raw : List ℕ) → word ++ [] ≡ said_word said
    → WroteSaying n said word raw → WroteSaying n said (said_word said ++ []) raw
word_said n said word raw whole wrote =
    subst (λ l. WroteSaying n said l raw)
    (sym (append-nil word) ∙ (whole ∙ sym (append-nil (said_word said)))) wrote

ahead_there : (ahead : Ahead) (said : Said) (quote : ℕ) (read : List ℕ) (begun : ℕ)
    (frames : List Frame) → SoundAhead ahead (AtSaidValue said quote read) begun frames
    → SoundAhead ahead (AtDeclaration (Some said) false) begun frames
ahead_there MarkAhead said quote read begun frames sound = sound
ahead_there DeclarationAhead said quote read begun frames sound = sound
ahead_there NothingAhead said quote read begun frames sound = absurd (cc)

module _ (ahead : Ahead) (begun : ℕ) (frames : List Frame) where
  begun_answers : (last o : Option Said) (c : ℕ)
      → Sound (at ahead (AtDeclaration last true) begun frames) → OnWord last c o
      → Answer (at ahead (AtDeclaration last true) begun frames) c
      (said_begun o (at ahead (AtDeclaration last true) begun frames))
  begun_answers last None c sound begins = malformed
      (at ahead (AtDeclaration last true) begun frames) c
  begun_answers last (Some said) c sound begins =
      leads_begun ahead begun frames last said c sound begins

  ending_answers : (last : Option Said) (spaced : Bool) (c : ℕ)
      → Sound (at ahead (AtDeclaration last spaced) begun frames) → c ≡ 63
      → Answer (at ahead (AtDeclaration last spaced) begun frames) c
      (declaration_ending last (at ahead (AtDeclaration last spaced) begun frames))
  ending_answers None spaced c sound is =
      malformed (at ahead (AtDeclaration None spaced) begun frames) c
  ending_answers (Some said) spaced c sound is =
      leads_ending ahead begun frames said spaced c sound is

  spaced_answers : (last : Option Said) (spaced : Bool) (c : ℕ)
      → Sound (at ahead (AtDeclaration last spaced) begun frames)
      → Answer (at ahead (AtDeclaration last spaced) begun frames) c
      (if spaced then said_begun (said_next last c)
      (at ahead (AtDeclaration last spaced) begun frames) else Err 3)
  spaced_answers last true c sound =
      begun_answers last (said_next last c) c sound (word_begins last c)
  spaced_answers last false c sound = malformed (at ahead (AtDeclaration last false) begun frames) c

  pub declaration_answers : (last : Option Said) (spaced : Bool) (c : ℕ)
      → Sound (at ahead (AtDeclaration last spaced) begun frames)
      → Answer (at ahead (AtDeclaration last spaced) begun frames) c
      (declaration_step (at ahead (AtDeclaration last spaced) begun frames) last spaced c)
  unfolding declaration_step
  declaration_answers last spaced c sound =
      let s = at ahead (AtDeclaration last spaced) begun frames in
      cond_both (is_white c) (Ok (at ahead (AtDeclaration last true) begun frames))
      (if c == 63 then declaration_ending last s
      else (if spaced then said_begun (said_next last c) s else Err 3)) (λ r. Answer s c r)
      (λ white. leads_white ahead begun frames last spaced c sound white)
      (λ _. cond_both (c == 63) (declaration_ending last s)
      (if spaced then said_begun (said_next last c) s else Err 3) (λ r. Answer s c r)
      (λ is. ending_answers last spaced c sound (eqb-true c 63 is))
      (λ _. spaced_answers last spaced c sound))

  -- behind the word, at whatever place
  behind_word : (p : Place) (said : Said) (c : ℕ) → Sound (at ahead p begun frames)
      → in_declaration p ≡ true → brackets_at p ≡ 0
      → ((n : ℕ) (raw : List ℕ) → Wrote n (wanted frames) p raw
      → Wrote n (wanted frames) (AtSaid said) raw)
      → Answer (at ahead p begun frames) c (said_step (at ahead p begun frames) said c)
  unfolding said_step
  behind_word p said c sound inside none wrote =
      let s = at ahead p begun frames in
      cond_both (is_white c) (Ok (at ahead (AtSaid said) begun frames))
      (if c == 61 then Ok (at ahead (AtSaidEquals said) begun frames) else Err 3)
      (λ r. Answer s c r)
      (λ white. leads_said ahead begun frames p said c sound inside none white wrote)
      (λ _. cond_both (c == 61) (Ok (at ahead (AtSaidEquals said) begun frames)) (Err 3)
      (λ r. Answer s c r)
      (λ is. leads_equals ahead begun frames p said c sound inside none (eqb-true c 61 is) wrote)
      (λ _. malformed s c))

  pub said_word_answers : (said : Said) (left : List ℕ) (c : ℕ)
      → Sound (at ahead (AtSaidWord said left) begun frames)
      → Answer (at ahead (AtSaidWord said left) begun frames) c
      (said_word_step (at ahead (AtSaidWord said left) begun frames) said left c)
  unfolding said_word_step
  said_word_answers said [] c sound =
      behind_word (AtSaidWord said []) said c sound refl refl
      (λ n raw w. ([], tt, word_said n said w.0 raw w.1 w.2))
  said_word_answers said (w ∷ left) c sound =
      let s = at ahead (AtSaidWord said (w ∷ left)) begun frames in
      cond_both (c == w) (Ok (at ahead (AtSaidWord said left) begun frames)) (Err 3)
      (λ r. Answer s c r)
      (λ is. leads_word ahead begun frames said w left c sound (eqb-true c w is))
      (λ _. malformed s c)

  pub said_answers : (said : Said) (c : ℕ) → Sound (at ahead (AtSaid said) begun frames)
      → Answer (at ahead (AtSaid said) begun frames) c
      (said_step (at ahead (AtSaid said) begun frames) said c)
  said_answers said c sound = behind_word (AtSaid said) said c sound refl refl (λ n raw w. w)

  pub said_equals_answers : (said : Said) (c : ℕ)
      → Sound (at ahead (AtSaidEquals said) begun frames)
      → Answer (at ahead (AtSaidEquals said) begun frames) c
      (said_equals_step (at ahead (AtSaidEquals said) begun frames) said c)
  unfolding said_equals_step
  said_equals_answers said c sound =
      let s = at ahead (AtSaidEquals said) begun frames in
      cond_both (is_white c) (Ok s)
      (if is_quote c then Ok (at ahead (AtSaidValue said c []) begun frames) else Err 3)
      (λ r. Answer s c r) (λ white. leads_after ahead begun frames said c sound white)
      (λ _. cond_both (is_quote c) (Ok (at ahead (AtSaidValue said c []) begun frames)) (Err 3)
      (λ r. Answer s c r) (λ quote. leads_quote ahead begun frames said c sound quote)
      (λ _. malformed s c))

  pub declaration_end_answers : (c : ℕ) → Sound (at ahead AtDeclarationEnd begun frames)
      → Answer (at ahead AtDeclarationEnd begun frames) c
      (declaration_end_step (at ahead AtDeclarationEnd begun frames) c)
  unfolding declaration_end_step
  declaration_end_answers c sound =
      let s = at ahead AtDeclarationEnd begun frames in
      cond_both (c == 62) (Ok (at NothingAhead (AtContent 0) begun frames)) (Err 3)
      (λ r. Answer s c r)
      (λ is. leads_content ahead begun frames c sound (eqb-true c 62 is)) (λ _. malformed s c)

  -- how each of them ends
  pub declaration_end_live : Sound (at ahead AtDeclarationEnd begun frames)
      → Live (at ahead AtDeclarationEnd begun frames)
  declaration_end_live sound =
      live_by (at ahead AtDeclarationEnd begun frames)
      (at NothingAhead (AtContent 0) begun frames) 62
      (good_low 62 (omega arith) (omega arith))
      (leads_content ahead begun frames 62 sound refl)
      (behind_in_content begun frames sound.frames sound.roots 0)

  said_live_behind : (said : Said) (spaced : Bool)
      → Sound (at ahead (AtDeclaration (Some said) spaced) begun frames)
      → Live (at ahead (AtDeclaration (Some said) spaced) begun frames)
  said_live_behind said spaced sound =
      let leads = leads_ending ahead begun frames said spaced 63 sound refl in
      live_by (at ahead (AtDeclaration (Some said) spaced) begun frames)
      (at ahead AtDeclarationEnd begun frames) 63 (good_low 63 (omega arith) (omega arith)) leads
      (declaration_end_live leads.sound)

  -- some more of a value, and its quote
  value_from : (said : Said) (quote : ℕ) (read : List ℕ) (n : ℕ) (more text : List ℕ)
      → ((value : List ℕ) → map (said_character said) value ≡ read → SaidKeeps n said
      (value ++ more))
      → From n (at ahead (AtDeclaration (Some said) false) begun frames) text
      → From n (at ahead (AtSaidValue said quote read) begun frames) (more ++ quote ∷ text)
  value_from said quote read n more text keeps from =
      subst (λ l. From n (at ahead (AtSaidValue said quote read) begun frames) l)
      (append_assoc more (quote ∷ []) text)
      (reads_by ahead begun frames (AtSaidValue said quote read) (AtDeclaration (Some said) false) n
      (more ++ quote ∷ []) text refl
      (λ raw w. value_closed ahead begun frames said quote read n raw more keeps w) from)

  sound_behind_value : (said : Said) (quote : ℕ) (read : List ℕ)
      → Sound (at ahead (AtSaidValue said quote read) begun frames)
      → Sound (at ahead (AtDeclaration (Some said) false) begun frames)
  sound_behind_value said quote read sound = record {
    frames = sound.frames;
    roots = sound.roots;
    ahead = ahead_there ahead said quote read begun frames sound.ahead;
    place = tt;
  }

  pub said_value_live : (said : Said) (quote : ℕ) (read : List ℕ)
      → Sound (at ahead (AtSaidValue said quote read) begun frames)
      → Live (at ahead (AtSaidValue said quote read) begun frames)
  said_value_live said quote read sound =
      let so = goes_on said read sound.place.0 in
      let live = said_live_behind said false (sound_behind_value said quote read sound) in
      record {
        more = so.rest ++ quote ∷ live.more;
        good =
            each_append Good so.rest (quote ∷ live.more) so.good
            (good_quote quote sound.place.1, live.good);
        from = λ n.
            value_from said quote read n so.rest live.more
            (λ value same. said_keeps n said (value ++ so.rest) (read ++ so.rest)
            (map-append (said_character said) value so.rest
            ∙ (ap (λ l. l ++ map (said_character said) so.rest) same
            ∙ ap (λ l. read ++ l) so.fixed)) so.is) (live.from n);
      }

  encoding_told : (quote : ℕ) (read : List ℕ) (c : ℕ)
      → Sound (at ahead (AtSaidValue Encoding quote read) begun frames)
      → (is_encoding_character c || c == quote) ≡ true
      → Told 9 (at ahead (AtSaidValue Encoding quote read) begun frames) c
  encoding_told quote read c sound is =
      let so = goes_on Encoding read sound.place.0 in
      let live = said_live_behind Encoding false (sound_behind_value Encoding quote read sound) in
      elim (or_cases (is_encoding_character c) (c == quote) is) [
        | inl character ↦ record {
          more = quote ∷ live.more;
          good = (good_quote quote sound.place.1, live.good);
          from =
              value_from Encoding quote read 9 (c ∷ []) live.more
              (λ value same. (
                each_append (λ d. is_encoding_character d ≡ true) value (c ∷ [])
                    (encoding_so_far value read same so) (character, tt),
                λ less. absurd (omega (arith, less)),
              )) (live.from 9);
        }
        | inr closes ↦ record {
          more = live.more;
          good = live.good;
          from =
              subst
              (λ d. From 9 (at ahead (AtSaidValue Encoding quote read) begun frames)
              (d ∷ live.more)) (sym (eqb-true c quote closes))
              (value_from Encoding quote read 9 [] live.more
              (λ value same. (
                each_append (λ d. is_encoding_character d ≡ true) value []
                    (encoding_so_far value read same so) tt,
                λ less. absurd (omega (arith, less)),
              )) (live.from 9));
        }
      ]

  fault_answers : (said : Said) (quote : ℕ) (read : List ℕ) (c : ℕ)
      → Sound (at ahead (AtSaidValue said quote read) begun frames)
      → Answer (at ahead (AtSaidValue said quote read) begun frames) c
      (Err (said_fault said quote c))
  fault_answers Version quote read c sound =
      malformed (at ahead (AtSaidValue Version quote read) begun frames) c
  fault_answers Standalone quote read c sound =
      malformed (at ahead (AtSaidValue Standalone quote read) begun frames) c
  fault_answers Encoding quote read c sound =
      let s = at ahead (AtSaidValue Encoding quote read) begun frames in
      cond_both (is_encoding_character c || c == quote) 9 3 (λ m. Answer s c (Err m))
      (λ is. (omega arith, omega arith, λ _. encoding_told quote read c sound is))
      (λ _. malformed s c)

  pub said_value_answers : (said : Said) (quote : ℕ) (read : List ℕ) (c : ℕ)
      → Sound (at ahead (AtSaidValue said quote read) begun frames)
      → Answer (at ahead (AtSaidValue said quote read) begun frames) c
      (said_value_step (at ahead (AtSaidValue said quote read) begun frames) said quote read c)
  unfolding said_value_step
  said_value_answers said quote read c sound =
      let s = at ahead (AtSaidValue said quote read) begun frames in
      let next = read ++ said_character said c ∷ [] in
      cond_both (c == quote)
      (if list_any (bytes_eq read) (said_values said)
      then Ok (at ahead (AtDeclaration (Some said) false) begun frames)
      else Err (said_fault said quote c))
      (if list_any (begins next) (said_values said)
      then Ok (at ahead (AtSaidValue said quote next) begun frames)
      else Err (said_fault said quote c)) (λ r. Answer s c r)
      (λ closes. cond_both (list_any (bytes_eq read) (said_values said))
      (Ok (at ahead (AtDeclaration (Some said) false) begun frames)) (Err (said_fault said quote c))
      (λ r. Answer s c r)
      (λ is. leads_closed ahead begun frames said quote read c sound (eqb-true c quote closes)
      (is_said said read is)) (λ _. fault_answers said quote read c sound))
      (λ _. cond_both (list_any (begins next) (said_values said))
      (Ok (at ahead (AtSaidValue said quote next) begun frames)) (Err (said_fault said quote c))
      (λ r. Answer s c r) (λ some. leads_value ahead begun frames said quote read c sound some)
      (λ _. fault_answers said quote read c sound))

  pub said_equals_live : (said : Said) → Sound (at ahead (AtSaidEquals said) begun frames)
      → Live (at ahead (AtSaidEquals said) begun frames)
  said_equals_live said sound =
      let leads = leads_quote ahead begun frames said 34 sound quote_is in
      live_by (at ahead (AtSaidEquals said) begun frames)
      (at ahead (AtSaidValue said 34 []) begun frames) 34 (good_low 34 (omega arith) (omega arith))
      leads (said_value_live said 34 [] leads.sound)

  equals_live_by : (p : Place) (said : Said) → Sound (at ahead p begun frames)
      → in_declaration p ≡ true → brackets_at p ≡ 0
      → ((n : ℕ) (raw : List ℕ) → Wrote n (wanted frames) p raw
      → Wrote n (wanted frames) (AtSaid said) raw)
      → Live (at ahead p begun frames)
  equals_live_by p said sound inside none wrote =
      let leads = leads_equals ahead begun frames p said 61 sound inside none refl wrote in
      live_by (at ahead p begun frames) (at ahead (AtSaidEquals said) begun frames) 61
      (good_low 61 (omega arith) (omega arith)) leads (said_equals_live said leads.sound)

  pub said_live : (said : Said) → Sound (at ahead (AtSaid said) begun frames)
      → Live (at ahead (AtSaid said) begun frames)
  said_live said sound = equals_live_by (AtSaid said) said sound refl refl (λ n raw w. w)

  pub said_word_live : (said : Said) (left : List ℕ)
      → Sound (at ahead (AtSaidWord said left) begun frames)
      → Live (at ahead (AtSaidWord said left) begun frames)
  said_word_live said [] sound =
      equals_live_by (AtSaidWord said []) said sound refl refl
      (λ n raw w. ([], tt, word_said n said w.0 raw w.1 w.2))
  said_word_live said (w ∷ left) sound =
      let good = left_good said sound.place.0 (w ∷ left) sound.place.1 in
      let leads = leads_word ahead begun frames said w left w sound refl in
      live_by (at ahead (AtSaidWord said (w ∷ left)) begun frames)
      (at ahead (AtSaidWord said left) begun frames) w good.0 leads
      (said_word_live said left leads.sound)

  none_live : Sound (at ahead (AtDeclaration None true) begun frames)
      → Live (at ahead (AtDeclaration None true) begun frames)
  none_live sound =
      let leads = leads_begun ahead begun frames None Version 118 sound version_begins in
      live_by (at ahead (AtDeclaration None true) begun frames)
      (at ahead (AtSaidWord Version (tail (said_word Version))) begun frames) 118
      (good_low 118 (omega arith) (omega arith)) leads
      (said_word_live Version (tail (said_word Version)) leads.sound)

  pub declaration_live : (last : Option Said) (spaced : Bool)
      → Sound (at ahead (AtDeclaration last spaced) begun frames)
      → Live (at ahead (AtDeclaration last spaced) begun frames)
  declaration_live (Some said) spaced sound = said_live_behind said spaced sound
  declaration_live None true sound = none_live sound
  declaration_live None false sound =
      let leads = leads_white ahead begun frames None false 32 sound white_is in
      live_by (at ahead (AtDeclaration None false) begun frames)
      (at ahead (AtDeclaration None true) begun frames) 32 (good_low 32 (omega arith) (omega arith))
      leads (none_live leads.sound)
