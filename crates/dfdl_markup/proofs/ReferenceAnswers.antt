-- References: what each step answers, and that some text ends the document from each place.
use Rattle.std.proofs.Common.{◌≡◌, ℕ, ◌+◌, ◌*◌, ◌<◌, ◌==◌, Bool, true, false, List, [], ◌∷◌, ◌++◌}
use Rattle.std.proofs.Common.{length, Option, Some, None, Ok, Err, refl, sym, ap, subst, ◌∙◌, arith}
use Rattle.std.proofs.Common.{append_assoc, append-nil, nat_le, if◌then◌else◌, IsSome, codes}
use Rattle.std.proofs.Common.{length-append}
use Rattle.std.proofs.lemmas.Bool.{cond_both, eqb-true, leb-true}
use Rattle.dfdl_layers.specs.Tellers.{Each}
use Rattle.dfdl_layers.proofs.Runs.{each-append, each-map}
use Rattle.dfdl_xml_chars.specs.Characters.{is_allowed, is_name_start, is_name_char}
use Rattle.dfdl_markup.specs.Grammar.{Named, Numbered, base_mark}
use Rattle.dfdl_markup.specs.Values.{is_digit, digit_value, base_of, number_on, entity, or_zero}
use Rattle.dfdl_markup.specs.Rules.{IsPart}
use Rattle.dfdl_markup.specs.Machine.{Within, InContent, Place, AtReference, AtEntity, AtHash}
use Rattle.dfdl_markup.specs.Machine.{AtHexadecimal, AtNumber, NothingAhead, Frame}
use Rattle.dfdl_markup.specs.Machine.{referred_to, wanted, begins_entity, entity_next}
use Rattle.dfdl_markup.specs.Machine.{reference_step, entity_ended, entity_step, number_next}
use Rattle.dfdl_markup.specs.Machine.{hash_step, hexadecimal_step, number_step}
use Rattle.dfdl_markup.proofs.Rest.{WroteReference, Wrote, Close, brackets_at}
use Rattle.dfdl_markup.proofs.Sound.{SoundWithin, SoundFrames, SoundRoots, Sound}
use Rattle.dfdl_markup.proofs.Answers.{Good, Live, Answer}
use Rattle.dfdl_markup.proofs.ReferenceNumbers.{number_on-append, grows, digit_plain, nine_digits}
use Rattle.dfdl_markup.proofs.Closing.{good_low, close_all}
use Rattle.dfdl_markup.proofs.NamesRead.{part_on}
use Rattle.dfdl_markup.proofs.Moves.{malformed, reads_on}
use Rattle.dfdl_markup.proofs.ReferenceEntities.{plain_text, completes, less_than}
use Rattle.dfdl_markup.proofs.ReferenceForms.{standing, place_behind, reference_more}
use Rattle.dfdl_markup.proofs.ReferenceSteps.{leads_behind, live_behind, told_last}
use Rattle.dfdl_markup.proofs.ReferenceSteps.{told_behind}

all_push : (f : ℕ → Bool) (text : List ℕ) (c : ℕ) → Each (λ d. f d ≡ true) text → f c ≡ true
    → Each (λ d. f d ≡ true) (text ++ c ∷ [])
all_push f text c each is = each-append (λ d. f d ≡ true) text (c ∷ []) each (is, tt)

-- digits as they are written, and their number
record Digits (n : ℕ) (within : Within) (hexadecimal : Bool) (value : ℕ)
    (raw : List ℕ) : Type 0 where
  digits : List ℕ
  are : Each (λ c. is_digit hexadecimal c ≡ true) digits
  number : number_on hexadecimal 0 digits ≡ value
  wrote : WroteReference n within (35 ∷ (base_mark hexadecimal ++ digits)) raw

number_push : (hexadecimal : Bool) (digits : List ℕ) (value c : ℕ)
    → number_on hexadecimal 0 digits ≡ value
    → number_on hexadecimal 0 (digits ++ c ∷ []) ≡ value * base_of hexadecimal + digit_value c
number_push hexadecimal digits value c is =
    number_on-append hexadecimal 0 digits (c ∷ [])
    ∙ ap (λ m. m * base_of hexadecimal + digit_value c) is

inside_more : (hexadecimal : Bool) (digits more : List ℕ)
    → (35 ∷ (base_mark hexadecimal ++ digits)) ++ more
    ≡ 35 ∷ (base_mark hexadecimal ++ (digits ++ more))
inside_more hexadecimal digits more = ap (λ l. 35 ∷ l)
    (append_assoc (base_mark hexadecimal) digits more)

some_behind : (digits more : List ℕ) → 0 < length digits → 0 < length (digits ++ more)
some_behind digits more some = let long = length-append digits more in omega arith

some_push : (digits : List ℕ) (c : ℕ) → 0 < length (digits ++ c ∷ [])
some_push digits c = let long = length-append digits (c ∷ []) in omega arith

module _ (begun : ℕ) (frames : List Frame) (within : Within)
    (behind : (d : ℕ) → Live (standing (place_behind within d) begun frames)) where
  -- a name that goes on
  name_answers : (p : Place) (name : List ℕ) (c : ℕ) → Sound (standing p begun frames)
      → SoundWithin within begun frames → brackets_at p ≡ 0 → IsPart (name ++ c ∷ [])
      → ((n : ℕ) (raw : List ℕ) → Wrote n (wanted frames) p raw → WroteReference n within name raw)
      → Answer (standing p begun frames) c
      (entity_next (standing p begun frames) within (name ++ c ∷ []))
  name_answers p name c sound inside none part wrote =
      cond_both (begins_entity (name ++ c ∷ []))
      (Ok (standing (AtEntity within (name ++ c ∷ [])) begun frames)) (Err 6)
      (λ r. Answer (standing p begun frames) c r)
      (λ some. reads_on NothingAhead p
      (AtEntity within (name ++ c ∷ [])) begun frames c sound none refl
      (inside, part, some)
      (λ n raw w. (reference_more n within name raw c (wrote n raw w), part)))
      (λ other. (
        omega arith,
        omega arith,
        λ _.
            told_last begun frames within behind p 6 c
            (or_zero (entity (name ++ c ∷ []))) inside none
            (λ raw w. record {
              reference = Named (name ++ c ∷ []);
              inside = name;
              keeps = (part, λ less. absurd (omega (arith, less)));
              is = refl;
              wrote = wrote 6 raw w;
              means = refl;
            }),
      ))

  -- a name that ends
  name_ends : (name : List ℕ) (o : Option ℕ) (c : ℕ) → entity name ≡ o → c ≡ 59
      → Sound (standing (AtEntity within name) begun frames)
      → Answer (standing (AtEntity within name) begun frames) c
      (entity_ended (standing (AtEntity within name) begun frames) within o)
  name_ends name None c known is sound = (
    omega arith,
    omega arith,
    λ _.
        told_behind begun frames within behind (AtEntity within name) 6 c (or_zero (entity name)) is
        sound.place.0 refl
        (λ raw w. record {
          reference = Named name;
          inside = name;
          keeps = (w.1, λ less. absurd (omega (arith, less)));
          is = append-nil name;
          wrote = w.0;
          means = refl;
        }),
  )
  name_ends name (Some d) c known is sound =
      leads_behind begun frames within (AtEntity within name) c d is sound sound.place.0 refl
      (λ n raw w. record {
        reference = Named name;
        inside = name;
        keeps = (w.1, λ _. subst IsSome (sym known) refl);
        is = append-nil name;
        wrote = w.0;
        means = ap or_zero known;
      })

  -- a number that goes on
  number_answers_next : (p : Place) (hexadecimal : Bool) (value next c : ℕ)
      → Sound (standing p begun frames) → SoundWithin within begun frames → brackets_at p ≡ 0
      → is_digit hexadecimal c ≡ true → value * base_of hexadecimal + digit_value c ≡ next
      → ((n : ℕ) (raw : List ℕ) → Wrote n (wanted frames) p raw
      → Digits n within hexadecimal value raw)
      → Answer (standing p begun frames) c
      (number_next (standing p begun frames) within hexadecimal next)
  number_answers_next p hexadecimal value next c sound inside none is_one is wrote =
      cond_both (nat_le next 0x10FFFF)
      (Ok (standing (AtNumber within hexadecimal next) begun frames)) (Err 12)
      (λ r. Answer (standing p begun frames) c r)
      (λ less. reads_on NothingAhead p
      (AtNumber within hexadecimal next) begun frames c sound none refl
      (inside, leb-true next 0x10FFFF less)
      (λ n raw w. let d = wrote n raw w in (
        d.digits ++ c ∷ [],
        some_push d.digits c,
        all_push (is_digit hexadecimal) d.digits c d.are is_one,
        number_push hexadecimal d.digits value c d.number ∙ is,
        subst (λ l. WroteReference n within l (raw ++ c ∷ []))
            (inside_more hexadecimal d.digits (c ∷ []))
            (reference_more n within (35 ∷ (base_mark hexadecimal ++ d.digits)) raw c d.wrote),
      )))
      (λ more. (
        omega arith,
        omega arith,
        λ _.
            told_last begun frames within behind p 12 c next inside none
            (λ raw w. let d = wrote 12 raw w in record {
              reference = Numbered hexadecimal (d.digits ++ c ∷ []);
              inside = 35 ∷ (base_mark hexadecimal ++ d.digits);
              keeps = (
                some_push d.digits c,
                all_push (is_digit hexadecimal) d.digits c d.are is_one,
                λ less. absurd (omega (arith, less)),
              );
              is = inside_more hexadecimal d.digits (c ∷ []);
              wrote = d.wrote;
              means = number_push hexadecimal d.digits value c d.number ∙ is;
            }),
      ))

  pub reference_step_answers : (c : ℕ) → Sound (standing (AtReference within) begun frames)
      → Answer (standing (AtReference within) begun frames) c
      (reference_step (standing (AtReference within) begun frames) within c)
  unfolding reference_step
  reference_step_answers c sound =
      let s = standing (AtReference within) begun frames in
      cond_both (is_name_start c) (entity_next s within (c ∷ []))
      (if c == 35 then Ok (standing (AtHash within) begun frames) else Err 3) (λ r. Answer s c r)
      (λ first. name_answers (AtReference within) [] c sound sound.place refl (first, tt)
      (λ n raw w. w))
      (λ other. cond_both (c == 35) (Ok (standing (AtHash within) begun frames)) (Err 3)
      (λ r. Answer s c r)
      (λ is. reads_on NothingAhead (AtReference within)
      (AtHash within) begun frames c sound refl refl
      sound.place
      (λ n raw w. subst (λ d. WroteReference n within (d ∷ []) (raw ++ c ∷ [])) (eqb-true c 35 is)
      (reference_more n within [] raw c w)))
      (λ _. malformed s c))

  pub entity_step_answers : (name : List ℕ) (c : ℕ) → Sound
      (standing (AtEntity within name) begun frames)
      → Answer (standing (AtEntity within name) begun frames) c
      (entity_step (standing (AtEntity within name) begun frames) within name c)
  unfolding entity_step
  entity_step_answers name c sound =
      let s = standing (AtEntity within name) begun frames in
      cond_both (is_name_char c) (entity_next s within (name ++ c ∷ []))
      (if c == 59 then entity_ended s within (entity name) else Err 3) (λ r. Answer s c r)
      (λ more. name_answers (AtEntity within name) name c sound sound.place.0 refl
      (part_on name c sound.place.1 more) (λ n raw w. w.0))
      (λ other. cond_both (c == 59) (entity_ended s within (entity name)) (Err 3)
      (λ r. Answer s c r) (λ is. name_ends name (entity name) c refl (eqb-true c 59 is) sound)
      (λ _. malformed s c))

  pub hash_step_answers : (c : ℕ) → Sound (standing (AtHash within) begun frames)
      → Answer (standing (AtHash within) begun frames) c
      (hash_step (standing (AtHash within) begun frames) within c)
  unfolding hash_step
  hash_step_answers c sound =
      let s = standing (AtHash within) begun frames in
      cond_both (is_digit false c) (number_next s within false (digit_value c))
      (if c == 120 then Ok (standing (AtHexadecimal within) begun frames) else Err 3)
      (λ r. Answer s c r)
      (λ is. number_answers_next (AtHash within) false 0 (digit_value c) c sound sound.place refl is
      (omega arith) (λ n raw w. record { digits = []; are = tt; number = refl; wrote = w }))
      (λ other. cond_both (c == 120) (Ok (standing (AtHexadecimal within) begun frames)) (Err 3)
      (λ r. Answer s c r)
      (λ is. reads_on NothingAhead (AtHash within)
      (AtHexadecimal within) begun frames c sound refl refl
      sound.place
      (λ n raw w. subst (λ d. WroteReference n within (35 ∷ d ∷ []) (raw ++ c ∷ []))
      (eqb-true c 120 is) (reference_more n within (35 ∷ []) raw c w)))
      (λ _. malformed s c))

  pub hexadecimal_step_answers : (c : ℕ) → Sound (standing (AtHexadecimal within) begun frames)
      → Answer (standing (AtHexadecimal within) begun frames) c
      (hexadecimal_step (standing (AtHexadecimal within) begun frames) within c)
  unfolding hexadecimal_step
  hexadecimal_step_answers c sound =
      let s = standing (AtHexadecimal within) begun frames in
      cond_both (is_digit true c) (number_next s within true (digit_value c)) (Err 3)
      (λ r. Answer s c r)
      (λ is. number_answers_next (AtHexadecimal within) true 0
      (digit_value c) c sound sound.place refl
      is (omega arith) (λ n raw w. record { digits = []; are = tt; number = refl; wrote = w }))
      (λ _. malformed s c)

  -- a number that ends
  number_ends : (hexadecimal : Bool) (value c : ℕ) → c ≡ 59
      → Sound (standing (AtNumber within hexadecimal value) begun frames)
      → Answer (standing (AtNumber within hexadecimal value) begun frames) c
      (if is_allowed value
      then Ok (referred_to (standing (AtNumber within hexadecimal value) begun frames) within value)
      else Err 12)
  number_ends hexadecimal value c is sound =
      let p = AtNumber within hexadecimal value in
      cond_both (is_allowed value) (Ok (referred_to (standing p begun frames) within value))
      (Err 12)
      (λ r. Answer (standing p begun frames) c r)
      (λ allowed. leads_behind begun frames within p c value is sound sound.place.0 refl
      (λ n raw w. record {
        reference = Numbered hexadecimal w.0;
        inside = 35 ∷ (base_mark hexadecimal ++ w.0);
        keeps = (w.1, w.2, λ _. ap is_allowed w.3 ∙ allowed);
        is = append-nil (35 ∷ (base_mark hexadecimal ++ w.0));
        wrote = w.4;
        means = w.3;
      }))
      (λ other. (
        omega arith,
        omega arith,
        λ _.
            told_behind begun frames within behind p 12 c value is sound.place.0 refl
            (λ raw w. record {
              reference = Numbered hexadecimal w.0;
              inside = 35 ∷ (base_mark hexadecimal ++ w.0);
              keeps = (w.1, w.2, λ less. absurd (omega (arith, less)));
              is = append-nil (35 ∷ (base_mark hexadecimal ++ w.0));
              wrote = w.4;
              means = w.3;
            }),
      ))

  pub number_step_answers : (hexadecimal : Bool) (value c : ℕ)
      → Sound (standing (AtNumber within hexadecimal value) begun frames)
      → Answer (standing (AtNumber within hexadecimal value) begun frames) c
      (number_step (standing (AtNumber within hexadecimal value) begun frames) within hexadecimal
      value c)
  unfolding number_step
  number_step_answers hexadecimal value c sound =
      let p = AtNumber within hexadecimal value in
      let s = standing p begun frames in
      cond_both (is_digit hexadecimal c)
      (number_next s within hexadecimal (value * base_of hexadecimal + digit_value c))
      (if c == 59 then (if is_allowed value then Ok (referred_to s within value) else Err 12)
      else Err 3) (λ r. Answer s c r)
      (λ is. number_answers_next p hexadecimal value
      (value * base_of hexadecimal + digit_value c) c sound sound.place.0 refl is refl
      (λ n raw w. record { digits = w.0; are = w.2; number = w.3; wrote = w.4 }))
      (λ other. cond_both (c == 59)
      (if is_allowed value then Ok (referred_to s within value) else Err 12) (Err 3)
      (λ r. Answer s c r) (λ is. number_ends hexadecimal value c (eqb-true c 59 is) sound)
      (λ _. malformed s c))

  pub reference_lives : Sound (standing (AtReference within) begun frames)
      → Live (standing (AtReference within) begun frames)
  reference_lives sound =
      live_behind begun frames within behind (AtReference within) (or_zero (entity (codes "lt")))
      (codes "lt") (plain_text (codes "lt") refl) sound.place refl
      (λ n raw w. record {
        reference = Named (codes "lt");
        inside = [];
        keeps = (less_than.part, λ _. less_than.known);
        is = refl;
        wrote = w;
        means = refl;
      })

  pub entity_lives : (name : List ℕ) → Sound (standing (AtEntity within name) begun frames)
      → Live (standing (AtEntity within name) begun frames)
  entity_lives name sound =
      let more = completes name sound.place.2 in
      live_behind begun frames within behind (AtEntity within name)
      (or_zero (entity (name ++ more.rest))) more.rest more.good sound.place.0 refl
      (λ n raw w. record {
        reference = Named (name ++ more.rest);
        inside = name;
        keeps = (more.is.part, λ _. more.is.known);
        is = refl;
        wrote = w.0;
        means = refl;
      })

  nine : (p : Place) (hexadecimal : Bool) → brackets_at p ≡ 0 → SoundWithin within begun frames
      → ((n : ℕ) (raw : List ℕ) → Wrote n (wanted frames) p raw → Digits n within hexadecimal 0 raw)
      → Live (standing p begun frames)
  nine p hexadecimal none inside wrote =
      let one = nine_digits hexadecimal in
      live_behind begun frames within behind p (number_on hexadecimal 0 (57 ∷ [])) (57 ∷ [])
      (good_low 57 (omega arith) (omega arith), tt) inside none
      (λ n raw w. let d = wrote n raw w in record {
        reference = Numbered hexadecimal (d.digits ++ 57 ∷ []);
        inside = 35 ∷ (base_mark hexadecimal ++ d.digits);
        keeps = (
          some_push d.digits 57,
          all_push (is_digit hexadecimal) d.digits 57 d.are one.0.0,
          λ _. ap is_allowed (number_push hexadecimal d.digits 0 57 d.number) ∙ one.1,
        );
        is = inside_more hexadecimal d.digits (57 ∷ []);
        wrote = d.wrote;
        means = number_push hexadecimal d.digits 0 57 d.number;
      })

  pub number_lives : (hexadecimal : Bool) (value : ℕ)
      → Sound (standing (AtNumber within hexadecimal value) begun frames)
      → Live (standing (AtNumber within hexadecimal value) begun frames)
  number_lives hexadecimal value sound =
      let more = grows hexadecimal value sound.place.1 in
      live_behind begun frames within behind (AtNumber within hexadecimal value)
      (number_on hexadecimal value more.more) more.more
      (each-map (λ c. is_digit hexadecimal c ≡ true) Good
      (digit_good hexadecimal) more.more more.digits)
      sound.place.0 refl
      (λ n raw w. record {
        reference = Numbered hexadecimal (w.0 ++ more.more);
        inside = 35 ∷ (base_mark hexadecimal ++ w.0);
        keeps = (
          some_behind w.0 more.more w.1,
          each-append (λ c. is_digit hexadecimal c ≡ true) w.0 more.more w.2 more.digits,
          λ _. ap is_allowed (number_on-append hexadecimal 0 w.0 more.more
              ∙ ap (λ m. number_on hexadecimal m more.more) w.3) ∙ more.allowed,
        );
        is = inside_more hexadecimal w.0 more.more;
        wrote = w.4;
        means =
            number_on-append hexadecimal 0 w.0 more.more
            ∙ ap (λ m. number_on hexadecimal m more.more) w.3;
      })
    where
      digit_good : (h : Bool) (c : ℕ) → is_digit h c ≡ true → Good c
      digit_good h c is = let plain = digit_plain h c is in good_low c plain.0 plain.1

  pub hash_lives : Sound (standing (AtHash within) begun frames)
      → Live (standing (AtHash within) begun frames)
  hash_lives sound =
      nine (AtHash within) false refl sound.place
      (λ n raw w. record { digits = []; are = tt; number = refl; wrote = w })

  pub hexadecimal_lives : Sound (standing (AtHexadecimal within) begun frames)
      → Live (standing (AtHexadecimal within) begun frames)
  hexadecimal_lives sound =
      nine (AtHexadecimal within) true refl sound.place
      (λ n raw w. record { digits = []; are = tt; number = refl; wrote = w })

-- behind a reference in a content
pub behind_in_content : (begun : ℕ) (frames : List Frame) → SoundFrames frames
    → SoundRoots begun frames → (d : ℕ) → Live (standing (place_behind InContent d) begun frames)
behind_in_content begun frames sound roots d =
    let closing = close_all begun frames 0 sound roots in
    record {
      more = closing.0;
      good = closing.1;
      from = λ n. record {
        whole = λ raw is. subst (λ l. Close n begun frames 0 (l ++ closing.0)) (sym is)
            (closing.2 n);
      };
    }
