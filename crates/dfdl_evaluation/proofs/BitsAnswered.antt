-- The bits that are told of pieces are those that the definitions give.
use Rattle.std.proofs.Common.{◌≡◌, ℕ, ◌-◌, nat_lt, Bool, true, false, if◌then◌else◌, List, [], ◌++◌, IfOk, slice_get, Option, None, Some, Result, Ok, Err, refl, subst, sym, ap, ◌∙◌}
use Rattle.std.proofs.lemmas.List.{append-nil}
use Rattle.dfdl_forms.specs.declared.order.BitOrder.{BitOrder}
use Rattle.dfdl_splice.specs.Bits.{bits_from}
use Rattle.dfdl_separators.specs.declared.policy.SeparatorPosition.{SeparatorPosition}
use Rattle.dfdl_suspend.specs.Asks.{Asks, Is, Fails, Gives, Gets, gives}
use Rattle.dfdl_suspend.specs.declared.known.Held.{Held}
use Rattle.dfdl_suspend.specs.declared.known.Held.TheVariants as held
use Rattle.dfdl_terms.specs.declared.prefix.Prefix.{Prefix}
use Rattle.dfdl_value.specs.declared.value.Value.TheVariants.{Bytes}
use Rattle.dfdl_writings.specs.declared.fault.Unwritten.{Unwritten}
use Rattle.dfdl_writings.specs.declared.form.Written.{Written}
use Rattle.dfdl_cells.proofs.Answered.{at_once, behind_onward, behind_same, bit_answers, chained, number_answers, value_answers}
use Rattle.dfdl_cells.proofs.Answered as cells_answered
use Rattle.dfdl_cells.specs.Answers.{Answers}
use Rattle.dfdl_cells.specs.Asking.{behind, bit as cell_bit, number, onward, value}
use Rattle.dfdl_cells.specs.Books.{Book}
use Rattle.dfdl_cells.specs.Lengths.{cause_of}
use Rattle.dfdl_cells.specs.Pieces.{delimiter_of, prefix_at, written_at}
use Rattle.dfdl_cells.specs.Places as places
use Rattle.dfdl_cells.specs.Plans.{Plan, writing_of}
use Rattle.dfdl_cells.specs.Separators as separators
use Rattle.dfdl_cells.specs.Values as values
use Rattle.dfdl_cells.specs.declared.asking.Stop.{Stop}
use Rattle.dfdl_cells.specs.declared.asking.Stop.TheVariants.{Wait, Fault}
use Rattle.dfdl_cells.specs.declared.piece.Earlier.{Earlier}
use Rattle.dfdl_cells.specs.declared.piece.Piece.{Piece}
use Rattle.dfdl_cells.specs.declared.piece.Piece.TheVariants as piece
use Rattle.dfdl_cells.specs.declared.piece.Stands.{Stands}
use Rattle.dfdl_cells.specs.declared.step.Place.{Place}
use Rattle.dfdl_evaluation.proofs.Coming.{onward_twice}
use Rattle.dfdl_evaluation.proofs.SlotsAnswered.{earlier_answers, stands_answers}
use Rattle.dfdl_evaluation.specs.AskingBits as asking
use Rattle.dfdl_evaluation.specs.AskingPieces.{prefix_behind, prefix_told}
use Rattle.dfdl_evaluation.specs.Written as written
use Rattle.dfdl_evaluation.specs.Written.{bits_at, bits_given, bits_or, bits_shown, fill_from, fill_in}
use Rattle.dfdl_evaluation.specs.declared.piece_bits.PieceBits.{PieceBits}

-- the bits are kept
abbrev keep : List ℕ → Asks Held
keep bits = Is (held.Value (Bytes bits))

abbrev kept : List ℕ → Gives Held
kept bits = Gets (held.Value (Bytes bits))

-- an equation that keeps bits gives these
record Tells (order : BitOrder) (equation : Asks Held) (known : List (Option Held)) (answer : Result PieceBits Stop) : Type 0 where
  gives_so : gives equation known ≡ behind answer (λ (one : PieceBits). kept (bits_shown order one))

module _ (order : BitOrder) where
  filled_shown : (fill at count : ℕ) → fill_from order fill at count ≡ bits_shown order (asking.filled fill at count)
  unfolding bits_from
  filled_shown fill at count = refl

  none_shown : [] ≡ bits_shown order asking.no_bits
  unfolding bits_from fill_from
  none_shown = refl

  whole_shown : (one : Written) → written.written_bits order one ≡ bits_shown order (asking.whole one)
  unfolding fill_from
  whole_shown one = sym (append-nil (written.written_bits order one))

  module _ (known : List (Option Held)) where
    tells_is : (bits : List ℕ) (one : PieceBits) → bits ≡ bits_shown order one → Tells order (keep bits) known (Ok one)
    tells_is bits one same = record { gives_so = ap kept same }

    tells_fails : (cause : ℕ) → Tells order (Fails cause) known (Err (Fault cause))
    tells_fails cause = record { gives_so = refl }

    tells_behind : {A : Type 0} (asked : (A → Asks Held) → Asks Held) (go : A → Asks Held) (first : Result A Stop) (next : A → Result PieceBits Stop)
        → Answers asked known first → ((a : A) → Tells order (go a) known (next a)) → Tells order (asked go) known (onward first next)
    tells_behind asked go first next is each = record {
      gives_so =
          is.gives_so go
          ∙ (behind_same first (λ a. gives (go a) known) (λ a. behind (next a) (λ (one : PieceBits). kept (bits_shown order one))) (λ a. (each a).gives_so)
          ∙ sym (behind_onward first next (λ (one : PieceBits). kept (bits_shown order one))));
    }

    tells_if : (test : Bool) (first second : Asks Held) (a b : Result PieceBits Stop) → Tells order first known a → Tells order second known b
        → Tells order (if test then first else second) known (if test then a else b)
    tells_if true first second a b one other = one
    tells_if false first second a b one other = other

    tells_same : (equation : Asks Held) (answer other : Result PieceBits Stop) → other ≡ answer → Tells order equation known answer
        → Tells order equation known other
    tells_same equation answer other same tells = subst (Tells order equation known) (sym same) tells

    filled_tells : (fill at count : ℕ) → Tells order (keep (fill_from order fill at count)) known (Ok (asking.filled fill at count))
    filled_tells fill at count = tells_is (fill_from order fill at count) (asking.filled fill at count) (filled_shown fill at count)

    writing_tells : (one : Result Written Unwritten) → Tells order (written.asked_writing order one keep) known (asking.of_writing one)
    writing_tells (Ok one) = tells_is (written.written_bits order one) (asking.whole one) (whole_shown one)
    writing_tells (Err cause) = tells_fails (cause_of cause)

    writing_if_tells : (there : Bool) (one : Result Written Unwritten)
        → Tells order (if there then written.asked_writing order one keep else keep []) known (asking.writing_if there one)
    writing_if_tells there one = tells_if there (written.asked_writing order one keep) (keep []) _ _ (writing_tells one) (tells_is [] asking.no_bits none_shown)

    module _ (book : Book) where
      there_answers : (position : SeparatorPosition) (slot : Stands) (before : Earlier)
          → Answers (λ (go : Bool → Asks Held). separators.is_earlier book before (λ is_before. separators.stands book slot
          (λ is_written. go (separators.is_there position is_written is_before)))) known (asking.stands_there book known position slot before)
      there_answers position slot before =
          chained known (separators.is_earlier book before)
          (λ is_before (go : Bool → Asks Held). separators.stands book slot (λ is_written. go (separators.is_there position is_written is_before))) _ _
          (earlier_answers known book before)
          (λ is_before. chained known (separators.stands book slot)
          (λ is_written (go : Bool → Asks Held). go (separators.is_there position is_written is_before)) _ _
          (stands_answers known book slot) (λ is_written. at_once known (separators.is_there position is_written is_before)))

      content_tells : (place : Place) (fill : ℕ) (one : Result Written Unwritten)
          → Tells order (written.asked_content order book place fill one keep) known (asking.content_by book known place fill one)
      content_tells place fill (Ok one) =
          tells_if (nat_lt 0 one.fill) _ _ _ _
          (tells_behind (places.asked_bit book place)
          (λ bit. keep (written.written_bits order one ++ fill_from order fill (places.further one.bits bit) one.fill)) _ _
          (bit_answers known book place)
          (λ bit. tells_is (written.written_bits order one ++ fill_from order fill (places.further one.bits bit) one.fill) (asking.with_fill one fill bit) refl))
          (tells_is (written.written_bits order one) (asking.whole one) (whole_shown one))
      content_tells place fill (Err cause) = tells_fails (cause_of cause)

      fill_tells : (fill : ℕ) (place : Place) (count : ℕ → ℕ)
          → Tells order (places.asked_bit book place (λ bit. keep (fill_from order fill bit (count bit)))) known
          (onward (cell_bit book known place) (λ at. Ok (asking.filled fill at (count at))))
      fill_tells fill place count =
          tells_behind (places.asked_bit book place) (λ bit. keep (fill_from order fill bit (count bit))) _ _ (bit_answers known book place)
          (λ bit. filled_tells fill bit (count bit))

      module _ (plan : Plan) where
        prefix_tells : (component : ℕ) (form : Prefix) (markup : ℕ) (first : Option ℕ) (bits : ℕ)
            → Tells order (written.asked_prefix order plan book component form markup first bits keep) known
            (onward (prefix_behind plan book known component form markup first bits) asking.of_writing)
        prefix_tells component form markup None bits = writing_tells (prefix_at plan component form bits 0)
        prefix_tells component form markup (Some first) bits =
            tells_same _ _ _
            (onward_twice (value book.cells known first) (λ told. Ok (prefix_told plan book component form markup bits told)) asking.of_writing)
            (tells_behind (values.asked_value book.cells first)
            (λ told. written.asked_writing order (prefix_told plan book component form markup bits told) keep) _
            (λ told. asking.of_writing (prefix_told plan book component form markup bits told))
            (value_answers known book.cells first) (λ told. writing_tells (prefix_told plan book component form markup bits told)))

        piece_tells : (one : Piece) → Tells order (written.asked_bits plan book order one keep) known (asking.of_piece plan book known one)
        piece_tells (piece.Skip bits fill place bound) = fill_tells fill place (λ at. bits)
        piece_tells (piece.Align bits fill place bound) = fill_tells fill place (λ at. places.aligned bits at - at)
        piece_tells (piece.Delimiter component list) = writing_tells (delimiter_of plan component list)
        piece_tells (piece.Marked component list mark) =
            tells_behind (places.marked book.cells mark)
            (λ there. if there then written.asked_writing order (delimiter_of plan component list) keep else keep []) _ _
            (cells_answered.stands_answers known book.cells mark) (λ there. writing_if_tells there (delimiter_of plan component list))
        piece_tells (piece.Separator component list position slot before) =
            tells_behind (λ (go : Bool → Asks Held). separators.is_earlier book before (λ is_before. separators.stands book slot
            (λ is_written. go (separators.is_there position is_written is_before))))
            (λ there. if there then written.asked_writing order (delimiter_of plan component list) keep else keep []) _ _
            (there_answers position slot before) (λ there. writing_if_tells there (delimiter_of plan component list))
        piece_tells (piece.Prefix component form own first markup) =
            tells_same _ _ _
            (onward_twice (number known own) (λ bits. prefix_behind plan book known component form markup first bits) asking.of_writing)
            (tells_behind (values.asked_number own) (λ bits. written.asked_prefix order plan book component form markup first bits keep) _
            (λ bits. onward (prefix_behind plan book known component form markup first bits) asking.of_writing)
            (number_answers known own) (λ bits. prefix_tells component form markup first bits))
        piece_tells (piece.Content component first markup place) =
            tells_behind (values.asked_value book.cells first)
            (λ told. written.asked_content order book place (fill_in (writing_of plan component)) (written_at plan book component markup told) keep) _ _
            (value_answers known book.cells first)
            (λ told. content_tells place (fill_in (writing_of plan component)) (written_at plan book component markup told))
        piece_tells (piece.Rest inside bits fill place) =
            tells_behind (values.asked_number inside) (λ length. places.asked_bit book place (λ bit. keep (fill_from order fill bit (bits - length)))) _ _
            (number_answers known inside) (λ length. fill_tells fill place (λ at. bits - length))
        piece_tells (piece.End fill place) = fill_tells fill place (λ at. places.aligned 8 at - at)
        piece_tells piece.Missing = tells_fails 0

        given_by : (answer : Result PieceBits Stop)
            → bits_given (behind answer (λ (one : PieceBits). kept (bits_shown order one))) ≡ bits_shown order (asking.or_none answer)
        given_by (Ok one) = refl
        given_by (Err (Wait cell)) = none_shown
        given_by (Err (Fault cause)) = none_shown

        laid_shown : (one : Option Piece) → bits_shown order (asking.of_laid plan book known one) ≡ bits_or plan book known order one
        laid_shown None = sym none_shown
        laid_shown (Some one) = sym (ap bits_given (piece_tells one).gives_so ∙ given_by (asking.of_piece plan book known one))

-- what is told of a piece that may be laid
pub told_bits : {E : Type 0} (plan : Plan) (book : Book) (known : List (Option Held)) (number : ℕ) (one : Option Piece) (r : Result PieceBits E)
    → one ≡ slice_get book.pieces number → IfOk r (λ bits. bits ≡ asking.of_laid plan book known one)
    → IfOk r (λ bits. (order : BitOrder) → bits_shown order bits ≡ bits_at plan book known order number)
told_bits plan book known number one (Ok bits) is told = λ order.
    ap (bits_shown order) told ∙ (laid_shown order known book plan one ∙ ap (λ (o : Option Piece). bits_or plan book known order o) is)
told_bits plan book known number one (Err fault) is told = tt
