-- The bits of a piece that are known stay as they are.
use Rattle.std.proofs.Common.{◌≡◌, ℕ, ◌-◌, nat_lt, Bool, true, false, if◌then◌else◌, List, [], ◌++◌, slice_get, Option, None, Some, Result, Ok, Err, refl, subst, sym, ap, ◌∙◌}
use Rattle.dfdl_forms.specs.declared.order.BitOrder.{BitOrder}
use Rattle.dfdl_suspend.specs.Asks.{Asks, Below, Is, Fails, Gives, Gets, Faults, WaitsFor, gives}
use Rattle.dfdl_suspend.specs.declared.known.Held.{Held}
use Rattle.dfdl_suspend.specs.declared.known.Held.TheVariants as held
use Rattle.dfdl_terms.specs.declared.prefix.Prefix.{Prefix}
use Rattle.dfdl_value.specs.declared.value.Value.TheVariants.{Bytes}
use Rattle.dfdl_writings.specs.declared.fault.Unwritten.{Unwritten}
use Rattle.dfdl_writings.specs.declared.form.Written.{Written}
use Rattle.dfdl_separators.specs.declared.policy.SeparatorPosition.{SeparatorPosition}
use Rattle.dfdl_cells.proofs.Answered.{bit_answers, number_answers, value_answers}
use Rattle.dfdl_cells.proofs.Answered as cells_answered
use Rattle.dfdl_cells.specs.Answers.{Answers}
use Rattle.dfdl_cells.specs.Asking.{behind}
use Rattle.dfdl_cells.specs.Books.{Book}
use Rattle.dfdl_cells.specs.Equations.{bits_of}
use Rattle.dfdl_cells.specs.Lengths.{cause_of}
use Rattle.dfdl_cells.specs.Pieces as pieces
use Rattle.dfdl_cells.specs.Pieces.{characters_in, delimiter_of, prefix_at, written_at}
use Rattle.dfdl_cells.specs.Places as places
use Rattle.dfdl_cells.specs.Plans.{Plan, form_of, writing_of}
use Rattle.dfdl_cells.specs.Separators as separators
use Rattle.dfdl_cells.specs.Values as values
use Rattle.dfdl_cells.specs.declared.asking.Stop.{Stop}
use Rattle.dfdl_cells.specs.declared.asking.Stop.TheVariants.{Wait, Fault}
use Rattle.dfdl_cells.specs.declared.piece.Earlier.{Earlier}
use Rattle.dfdl_cells.specs.declared.piece.Piece.{Piece}
use Rattle.dfdl_cells.specs.declared.piece.Piece.TheVariants as piece
use Rattle.dfdl_cells.specs.declared.piece.Stands.{Stands}
use Rattle.dfdl_cells.specs.declared.step.Place.{Place}
use Rattle.dfdl_evaluation.proofs.SlotsAnswered.{earlier_answers, stands_answers}
use Rattle.dfdl_evaluation.specs.Written as written
use Rattle.dfdl_evaluation.specs.Written.{bits_at, bits_given, bits_in, bits_or, fill_from, fill_in}

-- a value is given
abbrev Got : Gives Held → Type 0
Got (Gets value) = Unit {0}
Got (Faults cause) = ⊥
Got (WaitsFor cell) = ⊥

-- where one equation gives a value, another does
record Follows (known : List (Option Held)) (first second : Asks Held) : Type 0 where
  gets : Got (gives first known) → Got (gives second known)

abbrev keep : List ℕ → Asks Held
keep bits = Is (held.Value (Bytes bits))

module _ (known : List (Option Held)) where
  follows_kept : (first : Asks Held) (bits : List ℕ) → Follows known first (keep bits)
  follows_kept first bits = record { gets = λ got. tt }

  no_value : (cause : ℕ) (second : Asks Held) → Follows known (Fails cause) second
  no_value cause second = record { gets = λ got. absurd got }

  behind_got : {A : Type 0} (answer : Result A Stop) (go other : A → Asks Held) → ((a : A) → Follows known (go a) (other a))
      → Got (behind answer (λ a. gives (go a) known)) → Got (behind answer (λ a. gives (other a) known))
  behind_got (Ok a) go other each got = (each a).gets got
  behind_got (Err (Wait cell)) go other each got = got
  behind_got (Err (Fault cause)) go other each got = got

  follows_behind : {A : Type 0} (asked : (A → Asks Held) → Asks Held) (answer : Result A Stop) (go other : A → Asks Held) → Answers asked known answer
      → ((a : A) → Follows known (go a) (other a)) → Follows known (asked go) (asked other)
  follows_behind asked answer go other is each = record {
    gets = λ got. subst Got (sym (is.gives_so other)) (behind_got answer go other each (subst Got (is.gives_so go) got));
  }

  follows_if : (test : Bool) (a b c d : Asks Held) → Follows known a c → Follows known b d
      → Follows known (if test then a else b) (if test then c else d)
  follows_if true a b c d one other = one
  follows_if false a b c d one other = other

  module _ (order : BitOrder) where
    writing_follows : (one : Result Written Unwritten) → Follows known (pieces.known_or one) (written.asked_writing order one keep)
    writing_follows (Ok one) = follows_kept pieces.known (written.written_bits order one)
    writing_follows (Err cause) = no_value (cause_of cause) (Fails (cause_of cause))

    module _ (book : Book) where
      separator_follows : (position : SeparatorPosition) (slot : Stands) (before : Earlier) (one : Result Written Unwritten)
          → Follows known (pieces.separator_or book position slot before one)
          (separators.is_earlier book before (λ is_before. separators.stands book slot (λ is_written.
          if separators.is_there position is_written is_before then written.asked_writing order one keep else keep [])))
      separator_follows position slot before (Ok one) =
          follows_behind (separators.is_earlier book before) _ _ _ (earlier_answers known book before)
          (λ is_before. follows_behind (separators.stands book slot) _ _ _ (stands_answers known book slot)
          (λ is_written. either (separators.is_there position is_written is_before) (separators.told position one.bits slot is_written is_before)
          (written.written_bits order one)))
        where
          either : (test : Bool) (first : Asks Held) (bits : List ℕ) → Follows known first (if test then keep bits else keep [])
          either true first bits = follows_kept first bits
          either false first bits = follows_kept first []
      separator_follows position slot before (Err cause) =
          follows_behind (separators.is_earlier book before) _ _ _ (earlier_answers known book before)
          (λ is_before. follows_behind (separators.stands book slot) _ _ _ (stands_answers known book slot)
          (λ is_written. follows_if (separators.is_there position is_written is_before) _ _ _ _ (no_value (cause_of cause) (Fails (cause_of cause)))
          (follows_kept _ [])))

      content_follows : (place : Place) (fill : ℕ) (one : Result Written Unwritten)
          → Follows known (pieces.content_known book place one) (written.asked_content order book place fill one keep)
      content_follows place fill (Ok one) =
          follows_if (nat_lt 0 one.fill) _ _ _ _
          (follows_behind (places.asked_bit book place) _ (λ bit. pieces.known)
          (λ bit. keep (written.written_bits order one ++ fill_from order fill (places.further one.bits bit) one.fill)) (bit_answers known book place)
          (λ bit. follows_kept pieces.known (written.written_bits order one ++ fill_from order fill (places.further one.bits bit) one.fill)))
          (follows_kept pieces.known (written.written_bits order one))
      content_follows place fill (Err cause) = no_value (cause_of cause) (Fails (cause_of cause))

      fill_follows : (place : Place) (go : ℕ → Asks Held) (bits : ℕ → List ℕ)
          → Follows known (places.asked_bit book place go) (places.asked_bit book place (λ bit. keep (bits bit)))
      fill_follows place go bits =
          follows_behind (places.asked_bit book place) _ go (λ bit. keep (bits bit)) (bit_answers known book place) (λ bit. follows_kept (go bit) (bits bit))

      rest_follows : (test : Bool) (cause : ℕ) (place : Place) (bits : ℕ → List ℕ)
          → Follows known (if test then Fails cause else places.asked_bit book place (λ bit. pieces.known))
          (places.asked_bit book place (λ bit. keep (bits bit)))
      rest_follows true cause place bits = no_value cause (places.asked_bit book place (λ bit. keep (bits bit)))
      rest_follows false cause place bits = fill_follows place (λ bit. pieces.known) bits

      module _ (plan : Plan) where
        prefix_follows : (component : ℕ) (form : Prefix) (markup : ℕ) (first : Option ℕ) (bits : ℕ)
            → Follows known (pieces.prefix_known plan book component form markup first bits)
            (written.asked_prefix order plan book component form markup first bits keep)
        prefix_follows component form markup None bits = writing_follows (prefix_at plan component form bits 0)
        prefix_follows component form markup (Some first) bits =
            follows_behind (values.asked_value book.cells first) _ _ _ (value_answers known book.cells first)
            (λ told. writing_follows (prefix_at plan component form bits
            (characters_in (form_of plan component) (written_at plan book component markup told))))

-- where the bits of a piece are known, they are told, but of one that is missing
data Told (known : List (Option Held)) (plan : Plan) (book : Book) (order : BitOrder) (cell : ℕ) (one : Piece) : Type 0 where
  Missing : one ≡ piece.Missing → Told known plan book order cell one
  Bits : Follows known (pieces.equation_of plan book cell one) (written.asked_bits plan book order one keep) → Told known plan book order cell one

module _ (known : List (Option Held)) (plan : Plan) (book : Book) (order : BitOrder) (cell : ℕ) where
  told_of : (one : Piece) → Told known plan book order cell one
  told_of (piece.Skip bits fill place bound) = Bits (fill_follows known order book place (λ bit. pieces.within book bound (places.further bits bit)) (λ bit. fill_from order fill bit bits))
  told_of (piece.Align bits fill place bound) =
      Bits (fill_follows known order book place (λ bit. pieces.within book bound (places.aligned bits bit)) (λ bit. fill_from order fill bit (places.aligned bits bit - bit)))
  told_of (piece.Delimiter component list) = Bits (writing_follows known order (delimiter_of plan component list))
  told_of (piece.Marked component list mark) =
      Bits (follows_behind known (places.marked book.cells mark) _ _ _ (cells_answered.stands_answers known book.cells mark)
      (λ stands. follows_if known stands _ _ _ _ (writing_follows known order (delimiter_of plan component list)) (follows_kept known pieces.known [])))
  told_of (piece.Separator component list position slot before) =
      Bits (separator_follows known order book position slot before (delimiter_of plan component list))
  told_of (piece.Prefix component form own first markup) =
      Bits (follows_behind known (values.asked_number own) _ _ _ (number_answers known own)
      (λ bits. prefix_follows known order book plan component form markup first bits))
  told_of (piece.Content component first markup place) =
      Bits (follows_behind known (values.asked_value book.cells first) _ _ _ (value_answers known book.cells first)
      (λ told. content_follows known order book place (fill_in (writing_of plan component)) (written_at plan book component markup told)))
  told_of (piece.Rest inside bits fill place) =
      Bits (follows_behind known (values.asked_number inside) _ _ _ (number_answers known inside)
      (λ length. rest_follows known order book (nat_lt bits length) pieces.passes_content place (λ bit. fill_from order fill bit (bits - length))))
  told_of (piece.End fill place) = Bits (fill_follows known order book place (λ bit. pieces.known) (λ bit. fill_from order fill bit (places.aligned 8 bit - bit)))
  told_of piece.Missing = Missing refl

got_is : (one : Gives Held) → Got one → (value : Held) × (one ≡ Gets value)
got_is (Gets value) got = (value, refl)
got_is (Faults cause) got = absurd got
got_is (WaitsFor cell) got = absurd got

-- a value that an equation gives stays the same while more is known
abbrev pub Stays : Type 0
Stays = (equation : Asks Held) (a b : List (Option Held)) (value : Held) → Below a b → gives equation a ≡ Gets value → gives equation b ≡ Gets value

module _ (stays : Stays) (plan : Plan) (book : Book) (order : BitOrder) (cell : ℕ) (old new : List (Option Held)) (value : Held) (below : Below old new) where
  stay_by : (one : Piece) → Told old plan book order cell one → gives (pieces.equation_of plan book cell one) old ≡ Gets value
      → bits_in plan book new order one ≡ bits_in plan book old order one
  stay_by one (Missing is) gets = subst (λ (p : Piece). bits_in plan book new order p ≡ bits_in plan book old order p) (sym is) refl
  stay_by one (Bits follows) gets =
      let told = got_is (gives (written.asked_bits plan book order one keep) old) (follows.gets (subst Got (sym gets) tt)) in
      ap bits_given (stays (written.asked_bits plan book order one keep) old new told.0 below told.1 ∙ sym told.1)

  stay_or : (one : Option Piece) → gives (bits_of plan book cell one) old ≡ Gets value → bits_or plan book new order one ≡ bits_or plan book old order one
  stay_or None gets = refl
  stay_or (Some one) gets = stay_by one (told_of old plan book order cell one) gets

  pub bits_stay : (number : ℕ) → gives (bits_of plan book cell (slice_get book.pieces number)) old ≡ Gets value
      → bits_at plan book new order number ≡ bits_at plan book old order number
  bits_stay number gets = stay_or (slice_get book.pieces number) gets
