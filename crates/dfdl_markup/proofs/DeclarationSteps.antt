-- What each step within an XML declaration leads to.
use Rattle.std.proofs.Common.{◌≡◌, ℕ, ◌<◌, Bool, true, false, List, [], ◌∷◌, ◌++◌, length, Option}
use Rattle.std.proofs.Common.{Some, map, refl, sym, ap, subst, ◌∙◌, arith, append_assoc, append-nil}
use Rattle.std.proofs.Common.{length-append}
use Rattle.std.specs.List.{list_any}
use Rattle.std.proofs.lemmas.List.{map-append}
use Rattle.dfdl_markup.specs.Grammar.{is_white, is_quote, Said, Version, Encoding, Standalone}
use Rattle.dfdl_markup.specs.Grammar.{said_word, declaration_inside}
use Rattle.dfdl_markup.specs.Rules.{AreWhite}
use Rattle.dfdl_markup.specs.Machine.{Place, AtContent, AtDeclaration, AtSaidWord, AtSaid}
use Rattle.dfdl_markup.specs.Machine.{AtSaidEquals, AtSaidValue, AtDeclarationEnd, Ahead, MarkAhead}
use Rattle.dfdl_markup.specs.Machine.{DeclarationAhead, NothingAhead, Frame, begins, said_character}
use Rattle.dfdl_markup.specs.Machine.{said_values, tail, wanted, may_declare}
use Rattle.dfdl_markup.proofs.Rest.{WroteSaid, WroteSaying, Wrote, Whole, From, brackets_at}
use Rattle.dfdl_markup.proofs.Sound.{SoundAt, SoundAhead, in_declaration, before_declaration, Sound}
use Rattle.dfdl_markup.proofs.Answers.{Leads}
use Rattle.dfdl_markup.proofs.Closing.{whole_of_declaration, moves_on, each_append}
use Rattle.dfdl_markup.proofs.Moves.{at, content_at}
use Rattle.dfdl_markup.proofs.DeclarationForms.{said_more, saying_more, declares_said, SaidKeeps}
use Rattle.dfdl_markup.proofs.DeclarationForms.{valued, saying_closed, ends_written}
use Rattle.dfdl_markup.proofs.DeclarationValues.{BeginsWord, IsSaid, said_keeps}

white_push : (space : List ℕ) (c : ℕ) → AreWhite space → is_white c ≡ true
    → AreWhite (space ++ c ∷ [])
white_push space c white is = each_append (λ d. is_white d ≡ true) space (c ∷ []) white (is, tt)

some_push : (space : List ℕ) (c : ℕ) → 0 < length (space ++ c ∷ [])
some_push space c = let long = length-append space (c ∷ []) in omega arith

ahead_within : (ahead : Ahead) (p q : Place) (begun : ℕ) (frames : List Frame)
    → in_declaration p ≡ true → before_declaration q ≡ true → SoundAhead ahead p begun frames
    → SoundAhead ahead q begun frames
ahead_within MarkAhead p q begun frames inside before sound = (before, sound.1, sound.2)
ahead_within DeclarationAhead p q begun frames inside before sound = (before, sound.1, sound.2)
ahead_within NothingAhead p q begun frames inside before sound = absurd (cc)

by_ahead : (ahead : Ahead) (p : Place) (begun : ℕ) (frames : List Frame)
    → in_declaration p ≡ true → SoundAhead ahead p begun frames → may_declare ahead ≡ true
by_ahead MarkAhead p begun frames inside sound = refl
by_ahead DeclarationAhead p begun frames inside sound = refl
by_ahead NothingAhead p begun frames inside sound = absurd (cc)

-- some characters that only read on
pub reads_by : (ahead : Ahead) (begun : ℕ) (frames : List Frame) (p q : Place) (n : ℕ)
    (piece text : List ℕ) → brackets_at p ≡ brackets_at q
    → ((raw : List ℕ) → Wrote n (wanted frames) p raw → Wrote n (wanted frames) q (raw ++ piece))
    → From n (at ahead q begun frames) text → From n (at ahead p begun frames) (piece ++ text)
reads_by ahead begun frames p q n piece text same wrote from = record {
  whole = λ raw w.
      subst (λ l. Whole ahead n begun frames (brackets_at p) l) (append_assoc raw piece text)
      (subst (λ b. Whole ahead n begun frames b ((raw ++ piece) ++ text)) (sym same)
      (from.whole (raw ++ piece) (wrote raw w)));
}

-- the characters so far of what is said, and what goes on behind them
saying_on : (n : ℕ) (said : Said) (inside next raw more : List ℕ) → inside ++ more ≡ next
    → WroteSaying n said inside raw → WroteSaying n said next (raw ++ more)
saying_on n said inside next raw more is wrote =
    subst (λ l. WroteSaying n said l (raw ++ more)) is (saying_more more n said inside raw wrote)

equals_on : (said : Said) (before after : List ℕ) (c : ℕ)
    → (said_word said ++ (before ++ 61 ∷ after)) ++ c ∷ []
    ≡ said_word said ++ (before ++ 61 ∷ (after ++ c ∷ []))
equals_on said before after c =
    append_assoc (said_word said) (before ++ 61 ∷ after) (c ∷ [])
    ∙ ap (λ l. said_word said ++ l) (append_assoc before (61 ∷ after) (c ∷ []))

module _ (ahead : Ahead) (begun : ℕ) (frames : List Frame) where
  -- one more character of the declaration
  reads_within : (p q : Place) (c : ℕ) → Sound (at ahead p begun frames)
      → in_declaration p ≡ true → before_declaration q ≡ true → brackets_at p ≡ brackets_at q
      → SoundAt q begun frames
      → ((n : ℕ) (raw : List ℕ) → Wrote n (wanted frames) p raw
      → Wrote n (wanted frames) q (raw ++ c ∷ []))
      → Leads (at ahead p begun frames) c (at ahead q begun frames)
  reads_within p q c sound inside before same place wrote = record {
    sound = record {
      frames = sound.frames;
      roots = sound.roots;
      ahead = ahead_within ahead p q begun frames inside before sound.ahead;
      place = place;
    };
    back = moves_on (at ahead p begun frames) q c same wrote;
  }

  pub leads_white : (last : Option Said) (spaced : Bool) (c : ℕ)
      → Sound (at ahead (AtDeclaration last spaced) begun frames) → is_white c ≡ true
      → Leads (at ahead (AtDeclaration last spaced) begun frames) c
      (at ahead (AtDeclaration last true) begun frames)
  leads_white last spaced c sound white =
      reads_within (AtDeclaration last spaced) (AtDeclaration last true) c sound refl refl refl tt
      (λ n raw w. (
        w.0 ++ c ∷ [],
        said_more (c ∷ []) n raw w.0 last w.1,
        white_push w.0 c w.2 white,
        λ _. some_push w.0 c,
      ))

  pub leads_ending : (said : Said) (spaced : Bool) (c : ℕ)
      → Sound (at ahead (AtDeclaration (Some said) spaced) begun frames) → c ≡ 63
      → Leads (at ahead (AtDeclaration (Some said) spaced) begun frames) c
      (at ahead AtDeclarationEnd begun frames)
  leads_ending said spaced c sound is =
      reads_within (AtDeclaration (Some said) spaced) AtDeclarationEnd c sound refl refl refl tt
      (λ n raw w. let d = declares_said n raw w.0 said w.1 w.2 in (
        d.declaration,
        d.keeps,
        ap (λ x. (raw ++ x ∷ []) ++ 62 ∷ []) is
            ∙ ends_written raw (declaration_inside d.declaration) d.is,
      ))

  pub leads_begun : (last : Option Said) (said : Said) (c : ℕ)
      → Sound (at ahead (AtDeclaration last true) begun frames) → BeginsWord last c said
      → Leads (at ahead (AtDeclaration last true) begun frames) c
      (at ahead (AtSaidWord said (tail (said_word said))) begun frames)
  leads_begun last said c sound begins =
      reads_within (AtDeclaration last true) (AtSaidWord said (tail (said_word said))) c sound refl
      refl refl (c ∷ [], begins.word)
      (λ n raw w. (
        c ∷ [],
        begins.word,
        record {
          last = last;
          front = raw;
          space = w.0;
          wrote = w.1;
          white = w.2;
          some_space = w.3 refl;
          follows = begins.follows;
          is = refl;
        },
      ))

  pub leads_word : (said : Said) (w : ℕ) (left : List ℕ) (c : ℕ)
      → Sound (at ahead (AtSaidWord said (w ∷ left)) begun frames) → c ≡ w
      → Leads (at ahead (AtSaidWord said (w ∷ left)) begun frames) c
      (at ahead (AtSaidWord said left) begun frames)
  leads_word said w left c sound is =
      reads_within (AtSaidWord said (w ∷ left)) (AtSaidWord said left) c sound refl refl refl
      (sound.place.0 ++ c ∷ [], word_on sound.place.0 sound.place.1)
      (λ n raw wrote. (
        wrote.0 ++ c ∷ [],
        word_on wrote.0 wrote.1,
        saying_more (c ∷ []) n said wrote.0 raw wrote.2,
      ))
    where
      word_on : (word : List ℕ) → word ++ w ∷ left ≡ said_word said
          → (word ++ c ∷ []) ++ left ≡ said_word said
      word_on word whole =
          append_assoc word (c ∷ []) left ∙ (ap (λ x. word ++ x ∷ left) is ∙ whole)

  -- behind the word, at whatever place
  pub leads_said : (p : Place) (said : Said) (c : ℕ) → Sound (at ahead p begun frames)
      → in_declaration p ≡ true → brackets_at p ≡ 0 → is_white c ≡ true
      → ((n : ℕ) (raw : List ℕ) → Wrote n (wanted frames) p raw
      → Wrote n (wanted frames) (AtSaid said) raw)
      → Leads (at ahead p begun frames) c (at ahead (AtSaid said) begun frames)
  leads_said p said c sound inside none white wrote =
      reads_within p (AtSaid said) c sound inside refl none tt
      (λ n raw w. let so = wrote n raw w in (
        so.0 ++ c ∷ [],
        white_push so.0 c so.1 white,
        saying_on n said (said_word said ++ so.0) (said_word said ++ (so.0 ++ c ∷ [])) raw (c ∷ [])
            (append_assoc (said_word said) so.0 (c ∷ [])) so.2,
      ))

  pub leads_equals : (p : Place) (said : Said) (c : ℕ) → Sound (at ahead p begun frames)
      → in_declaration p ≡ true → brackets_at p ≡ 0 → c ≡ 61
      → ((n : ℕ) (raw : List ℕ) → Wrote n (wanted frames) p raw
      → Wrote n (wanted frames) (AtSaid said) raw)
      → Leads (at ahead p begun frames) c (at ahead (AtSaidEquals said) begun frames)
  leads_equals p said c sound inside none is wrote =
      reads_within p (AtSaidEquals said) c sound inside refl none tt
      (λ n raw w. let so = wrote n raw w in (
        so.0,
        [],
        so.1,
        tt,
        saying_on n said (said_word said ++ so.0) (said_word said ++ (so.0 ++ 61 ∷ [])) raw (c ∷ [])
            (append_assoc (said_word said) so.0 (c ∷ [])
            ∙ ap (λ x. said_word said ++ (so.0 ++ x ∷ [])) is) so.2,
      ))

  pub leads_after : (said : Said) (c : ℕ) → Sound (at ahead (AtSaidEquals said) begun frames)
      → is_white c ≡ true
      → Leads (at ahead (AtSaidEquals said) begun frames) c
      (at ahead (AtSaidEquals said) begun frames)
  leads_after said c sound white =
      reads_within (AtSaidEquals said) (AtSaidEquals said) c sound refl refl refl tt
      (λ n raw w. (
        w.0,
        w.1 ++ c ∷ [],
        w.2,
        white_push w.1 c w.3 white,
        saying_on n said (said_word said ++ (w.0 ++ 61 ∷ w.1))
            (said_word said ++ (w.0 ++ 61 ∷ (w.1 ++ c ∷ []))) raw (c ∷ [])
            (equals_on said w.0 w.1 c) w.4,
      ))

  begins_all : (said : Said) → list_any (begins []) (said_values said) ≡ true
  begins_all Version = refl
  begins_all Encoding = refl
  begins_all Standalone = refl

  pub leads_quote : (said : Said) (c : ℕ) → Sound (at ahead (AtSaidEquals said) begun frames)
      → is_quote c ≡ true
      → Leads (at ahead (AtSaidEquals said) begun frames) c
      (at ahead (AtSaidValue said c []) begun frames)
  leads_quote said c sound quote =
      reads_within (AtSaidEquals said) (AtSaidValue said c []) c sound refl refl refl
      (begins_all said, quote)
      (λ n raw w. (
        w.0,
        w.1,
        [],
        w.2,
        w.3,
        quote,
        refl,
        saying_on n said (said_word said ++ (w.0 ++ 61 ∷ w.1))
            (said_word said ++ (w.0 ++ 61 ∷ (w.1 ++ c ∷ []))) raw (c ∷ [])
            (equals_on said w.0 w.1 c) w.4,
      ))

  -- in the value
  pub leads_value : (said : Said) (quote : ℕ) (read : List ℕ) (c : ℕ)
      → Sound (at ahead (AtSaidValue said quote read) begun frames)
      → list_any (begins (read ++ said_character said c ∷ [])) (said_values said) ≡ true
      → Leads (at ahead (AtSaidValue said quote read) begun frames) c
      (at ahead (AtSaidValue said quote (read ++ said_character said c ∷ [])) begun frames)
  leads_value said quote read c sound some =
      reads_within (AtSaidValue said quote read)
      (AtSaidValue said quote (read ++ said_character said c ∷ [])) c sound refl refl refl
      (some, sound.place.1)
      (λ n raw w. (
        w.0,
        w.1,
        w.2 ++ c ∷ [],
        w.3,
        w.4,
        w.5,
        map-append (said_character said) w.2 (c ∷ [])
            ∙ ap (λ l. l ++ said_character said c ∷ []) w.6,
        saying_on n said (said_word said ++ (w.0 ++ 61 ∷ (w.1 ++ quote ∷ w.2)))
            (said_word said ++ (w.0 ++ 61 ∷ (w.1 ++ quote ∷ (w.2 ++ c ∷ [])))) raw (c ∷ [])
            (valued (said_word said) w.0 w.1 w.2 (c ∷ []) quote) w.7,
      ))

  -- more of a value and its closing quote, by the rules below n
  pub value_closed : (said : Said) (quote : ℕ) (read : List ℕ) (n : ℕ) (raw more : List ℕ)
      → ((value : List ℕ) → map (said_character said) value ≡ read → SaidKeeps n said
      (value ++ more))
      → Wrote n (wanted frames) (AtSaidValue said quote read) raw
      → Wrote n (wanted frames) (AtDeclaration (Some said) false) (raw ++ (more ++ quote ∷ []))
  value_closed said quote read n raw more keeps w = (
    [],
    subst (λ l. WroteSaid n l (Some said) []) (append_assoc raw more (quote ∷ []))
        (saying_closed n said w.0 w.1 (w.2 ++ more) (raw ++ more) quote w.3 w.4 w.5 (keeps w.2 w.6)
        (saying_on n said (said_word said ++ (w.0 ++ 61 ∷ (w.1 ++ quote ∷ w.2)))
        (said_word said ++ (w.0 ++ 61 ∷ (w.1 ++ quote ∷ (w.2 ++ more)))) raw more
        (valued (said_word said) w.0 w.1 w.2 more quote) w.7)),
    tt,
    λ spaced. absurd (cc),
  )

  pub leads_closed : (said : Said) (quote : ℕ) (read : List ℕ) (c : ℕ)
      → Sound (at ahead (AtSaidValue said quote read) begun frames) → c ≡ quote → IsSaid said read
      → Leads (at ahead (AtSaidValue said quote read) begun frames) c
      (at ahead (AtDeclaration (Some said) false) begun frames)
  leads_closed said quote read c sound is said_so =
      reads_within (AtSaidValue said quote read) (AtDeclaration (Some said) false) c sound refl refl
      refl tt
      (λ n raw w. subst
      (λ x. Wrote n (wanted frames) (AtDeclaration (Some said) false) (raw ++ x ∷ [])) (sym is)
      (value_closed said quote read n raw []
      (λ value same. subst (λ l. SaidKeeps n said l) (sym (append-nil value))
      (said_keeps n said value read same said_so)) w))

  may_end : (p : Place) → in_declaration p ≡ true → Sound (at ahead p begun frames)
      → may_declare ahead ≡ true
  may_end p inside sound = by_ahead ahead p begun frames inside sound.ahead

  -- behind the declaration
  pub leads_content : (c : ℕ) → Sound (at ahead AtDeclarationEnd begun frames) → c ≡ 62
      → Leads (at ahead AtDeclarationEnd begun frames) c
      (at NothingAhead (AtContent 0) begun frames)
  leads_content c sound is = record {
    sound = record {
      frames = sound.frames;
      roots = sound.roots;
      ahead = refl;
      place = content_at begun frames;
    };
    back = λ n text from. record {
      whole = λ raw w.
          subst (λ l. Whole ahead n begun frames 0 l)
          (ap (λ l. l ++ text) (sym w.2)
          ∙ (append_assoc raw (62 ∷ []) text ∙ ap (λ x. raw ++ x ∷ text) (sym is)))
          (whole_of_declaration ahead n begun frames 0 w.0 text
          (may_end AtDeclarationEnd refl sound) w.1 (from.whole [] refl));
    };
  }
