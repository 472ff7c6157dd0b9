-- What the loading of documents comes to is one where its files are told.
use Rattle.std.proofs.Common.{◌≡◌, ℕ, ◌<◌, ◌≤◌, List, length, refl, sym, ap, ◌∙◌, subst, arith, Option, None, Some, IsTrue, IsSome, IfSome, ◌⊎◌, inl, inr}
use Rattle.std.proofs.lemmas.Option.{slice_get_within}
use Rattle.dfdl_edge.specs.Files.{FilesSeen}
use Rattle.dfdl_edge.specs.Told.{IsLonger}
use Rattle.dfdl_markup.specs.Documents.{IsRefusedBy, IsTreeOf}
use Rattle.dfdl_markup.specs.Trees.{Node}
use Rattle.dfdl_report.specs.Causes.{document_number}
use Rattle.dfdl_report.specs.declared.cause.DocCause.{DocCause}
use Rattle.dfdl_report.specs.declared.cause.LimitCause.TheVariants.{Input, Window, Nodes, Text, Depth, Cells, Held, Schema, Schemas, Rows}
use Rattle.dfdl_report.specs.declared.place.Place.{Place}
use Rattle.dfdl_documents.specs.declared.fault.DocumentsFault.{DocumentsFault}
use Rattle.dfdl_documents.specs.declared.fault.DocumentsFault.TheVariants as fault
use Rattle.dfdl_documents.specs.Documents.{SchemaDocument}
use Rattle.dfdl_documents.specs.Loading.{AreLoaded, IsFile, IsLoading, IsWithinTree, next_name}
use Rattle.dfdl_documents.specs.Faults.{Request, IsTooLong, IsNoDocument, IsWithinRefused, AreTooMany, EndsBy}
use Rattle.dfdl_documents.specs.Told.{AreTold, IsDue, IsUntold, IsMissing, IsToldTooLong, IsToldRefused, AreToldTooMany}
use Rattle.dfdl_documents.proofs.Agreed.{at_place, stand, shorter, same, longer}
use Rattle.dfdl_documents.proofs.Causes.{one_cause_of}

-- The loading stops behind these documents at this name: where there is room for it, its file is no
-- document that fits. `Told` is what has to be told of the document for that.
record IsStop (Told : SchemaDocument → Type 0) (files : FilesSeen) (asked : Request)
    (documents : List SchemaDocument) (name : List ℕ) : Type 0 where
  loading : IsLoading files asked.most asked.first documents
  next : next_name asked.first documents ≡ Some name
  few : length documents ≤ asked.schemas
  why : (d : SchemaDocument) → d.name ≡ name → IsFile files asked.most d → Told d
      → length documents < asked.schemas → ⊥

-- its bytes are told, and nothing has to be
abbrev Bytes : FilesSeen → SchemaDocument → Type 0
Bytes files d = IsSome (files.content d.name)

abbrev Nothing : SchemaDocument → Type 0
Nothing d = Unit {0}

-- a file that fits is not longer, and one with a tree is not refused
not_longer : (most : ℕ) (o : Option (List ℕ)) (d : SchemaDocument) → IsSome o → IsLonger o most
    → IfSome o (λ bytes. IsWithinTree most bytes d) → ⊥
not_longer most None d told past read = absurd cc
not_longer most (Some bytes) d told past read = omega (arith, past, read.fits)

module _ (no_tree : (bytes : List ℕ) (at n : ℕ) (nodes : List Node) → IsRefusedBy bytes at n
    → IsTreeOf bytes nodes → ⊥) where
  not_refused : (most at : ℕ) (cause : DocCause) (o : Option (List ℕ)) (d : SchemaDocument)
      → IsSome o → IfSome o (IsWithinRefused most at cause)
      → IfSome o (λ bytes. IsWithinTree most bytes d) → ⊥
  not_refused most at cause None d told refused read = absurd cc
  not_refused most at cause (Some bytes) d told refused read =
      no_tree bytes at (document_number cause) d.nodes refused.refused read.tree

  too_long_stops : (before after : FilesSeen) (asked : Request) (t : IsTooLong before after asked)
      → IsStop (Bytes before) before asked t.documents t.name
  too_long_stops before after asked t = record {
    loading = t.next.loading;
    next = t.next.next;
    few = omega (arith, t.next.room);
    why = λ d is file told room.
        not_longer asked.most (before.content d.name) d told
        (subst (λ n. IsLonger (before.content n) asked.most) (sym is) t.longer) file.read;
  }

  refused_stops : (before after : FilesSeen) (asked : Request) (cause : DocCause) (place : Place)
      (name : List ℕ) (t : IsNoDocument before after asked cause place name)
      → IsStop (Bytes before) before asked t.documents name
  refused_stops before after asked cause place name t = record {
    loading = t.next.loading;
    next = t.next.next;
    few = omega (arith, t.next.room);
    why = λ d is file told room.
        not_refused asked.most place.at cause (before.content d.name) d told
        (subst (λ n. IfSome (before.content n) (IsWithinRefused asked.most place.at cause)) (sym is) t.refused) file.read;
  }

  many_stops : (before after : FilesSeen) (asked : Request) (t : AreTooMany before after asked)
      → IsStop (Bytes before) before asked t.documents t.name
  many_stops before after asked t = record {
    loading = t.loading;
    next = t.next;
    few = omega (arith, t.full);
    why = λ d is file told room. omega (arith, t.full, room);
  }

  missing_is_due : (files : FilesSeen) (asked : Request) (name : List ℕ) (u : IsMissing files asked name)
      → IsStop Nothing files asked u.documents name
  missing_is_due files asked name u = record {
    loading = u.next.loading;
    next = u.next.next;
    few = omega (arith, u.next.room);
    why = λ d is file told room. file.there (subst (λ n. IsTrue (files.is_missing n)) (sym is) u.missing);
  }

  long_is_due : (files : FilesSeen) (asked : Request) (u : IsToldTooLong files asked)
      → IsStop Nothing files asked u.documents u.name
  long_is_due files asked u = record {
    loading = u.next.loading;
    next = u.next.next;
    few = omega (arith, u.next.room);
    why = λ d is file told room.
        not_longer asked.most (Some u.bytes) d refl u.longer
        (subst (λ o. IfSome o (λ bytes. IsWithinTree asked.most bytes d)) (ap files.content is ∙ u.content) file.read);
  }

  refused_is_due : (files : FilesSeen) (asked : Request) (cause : DocCause) (place : Place)
      (name : List ℕ) (u : IsToldRefused files asked cause place name)
      → IsStop Nothing files asked u.documents name
  refused_is_due files asked cause place name u = record {
    loading = u.next.loading;
    next = u.next.next;
    few = omega (arith, u.next.room);
    why = λ d is file told room.
        not_refused asked.most place.at cause (Some u.bytes) d refl
        (record { fits = u.fits; refused = u.refused })
        (subst (λ o. IfSome o (λ bytes. IsWithinTree asked.most bytes d)) (ap files.content is ∙ u.content) file.read);
  }

  many_are_due : (files : FilesSeen) (asked : Request) (u : AreToldTooMany files asked)
      → IsStop Nothing files asked u.documents u.name
  many_are_due files asked u = record {
    loading = u.loading;
    next = u.next;
    few = omega (arith, u.full);
    why = λ d is file told room. omega (arith, u.full, room);
  }

  module _ (one_tree : (bytes : List ℕ) (a b : List Node) → IsTreeOf bytes a → IsTreeOf bytes b → a ≡ b) where
    some_name : (a b : List ℕ) → Some a ≡ Some b → a ≡ b
    some_name a b is = cc

    pub one_list : (files : FilesSeen) (asked : Request) (a b : List SchemaDocument)
        → AreLoaded files asked.most asked.schemas asked.first a
        → AreLoaded files asked.most asked.schemas asked.first b → AreTold files b → a ≡ b
    one_list files asked a b left right told =
        elim (stand one_tree files asked.most asked.first a b left.loading right.loading told) [
          | shorter d at next ↦ let none = left.no_more in absurd cc
          | same is ↦ is
          | longer d at next ↦ let none = right.no_more in absurd cc
        ]

    -- all documents are loaded, and none is due to stop it
    loaded_or_due : (files : FilesSeen) (asked : Request) (a b : List SchemaDocument) (name : List ℕ)
        → AreLoaded files asked.most asked.schemas asked.first a → AreTold files b
        → IsStop Nothing files asked b name → ⊥
    loaded_or_due files asked a b name left told stop =
        elim (stand one_tree files asked.most asked.first a b left.loading stop.loading told) [
          | shorter d at next ↦ let none = left.no_more in absurd cc
          | same is ↦ let none = left.no_more in let some = stop.next in
              let both : next_name asked.first a ≡ next_name asked.first b = ap (next_name asked.first) is in absurd cc
          | longer d at next ↦
              stop.why d (some_name d.name name (sym next ∙ stop.next)) (at_place (IsFile files asked.most) a (length b) d left.loading.are_files at) tt
              (omega (arith, left.few, slice_get_within a (length b) d at))
        ]

    loaded_or_ended : (files : FilesSeen) (asked : Request) (a b : List SchemaDocument) (name : List ℕ)
        → IsStop (Bytes files) files asked a name
        → AreLoaded files asked.most asked.schemas asked.first b → AreTold files b → ⊥
    loaded_or_ended files asked a b name stop right told =
        elim (stand one_tree files asked.most asked.first a b stop.loading right.loading told) [
          | shorter d at next ↦
              stop.why d (some_name d.name name (sym next ∙ stop.next)) (at_place (IsFile files asked.most) b (length a) d right.loading.are_files at)
              (at_place (Bytes files) b (length a) d told at)
              (omega (arith, right.few, slice_get_within b (length a) d at))
          | same is ↦ let none = right.no_more in let some = stop.next in
              let both : next_name asked.first a ≡ next_name asked.first b = ap (next_name asked.first) is in absurd cc
          | longer d at next ↦ let none = right.no_more in absurd cc
        ]

    -- a loading ends where it is due to
    ended_where_due : (files : FilesSeen) (asked : Request) (a b : List SchemaDocument)
        (n m : List ℕ) → IsStop (Bytes files) files asked a n → AreTold files b
        → IsStop Nothing files asked b m → a ≡ b
    ended_where_due files asked a b n m left told right =
        elim (stand one_tree files asked.most asked.first a b left.loading right.loading told) [
          | shorter d at next ↦
              absurd (left.why d (some_name d.name n (sym next ∙ left.next)) (at_place (IsFile files asked.most) b (length a) d right.loading.are_files at)
              (at_place (Bytes files) b (length a) d told at)
              (omega (arith, right.few, slice_get_within b (length a) d at)))
          | same is ↦ is
          | longer d at next ↦
              absurd (right.why d (some_name d.name m (sym next ∙ right.next)) (at_place (IsFile files asked.most) a (length b) d left.loading.are_files at) tt
              (omega (arith, left.few, slice_get_within a (length b) d at)))
        ]

    pub not_due : (files : FilesSeen) (asked : Request) (a : List SchemaDocument) (due : DocumentsFault)
        → AreLoaded files asked.most asked.schemas asked.first a → IsDue files asked due → ⊥
    not_due files asked a (fault.Files name) left u =
        loaded_or_due files asked a u.documents name left u.told (missing_is_due files asked name u)
    not_due files asked a (fault.Document cause place name) left u =
        loaded_or_due files asked a u.documents name left u.told (refused_is_due files asked cause place name u)
    not_due files asked a (fault.Limit Schema quantity) left u =
        loaded_or_due files asked a u.1.documents u.1.name left u.1.told (long_is_due files asked u.1)
    not_due files asked a (fault.Limit Schemas quantity) left u =
        loaded_or_due files asked a u.1.documents u.1.name left u.1.told (many_are_due files asked u.1)
    not_due files asked a (fault.Limit Input quantity) left u = u
    not_due files asked a (fault.Limit Window quantity) left u = u
    not_due files asked a (fault.Limit Nodes quantity) left u = u
    not_due files asked a (fault.Limit Text quantity) left u = u
    not_due files asked a (fault.Limit Depth quantity) left u = u
    not_due files asked a (fault.Limit Cells quantity) left u = u
    not_due files asked a (fault.Limit Held quantity) left u = u
    not_due files asked a (fault.Limit Rows quantity) left u = u
    not_due files asked a fault.OutOfMemory left u = u

    pub not_ended : (before after : FilesSeen) (asked : Request) (f : DocumentsFault)
        (b : List SchemaDocument) → EndsBy before after asked f
        → AreLoaded before asked.most asked.schemas asked.first b → AreTold before b → IsUntold f
    not_ended before after asked (fault.Files name) b t right told = tt
    not_ended before after asked (fault.Document cause place name) b t right told =
        loaded_or_ended before asked t.documents b name (refused_stops before after asked cause place name t) right told
    not_ended before after asked (fault.Limit Schema quantity) b t right told =
        loaded_or_ended before asked t.1.documents b t.1.name (too_long_stops before after asked t.1) right told
    not_ended before after asked (fault.Limit Schemas quantity) b t right told =
        loaded_or_ended before asked t.1.documents b t.1.name (many_stops before after asked t.1) right told
    not_ended before after asked (fault.Limit Input quantity) b t right told = t
    not_ended before after asked (fault.Limit Window quantity) b t right told = t
    not_ended before after asked (fault.Limit Nodes quantity) b t right told = t
    not_ended before after asked (fault.Limit Text quantity) b t right told = t
    not_ended before after asked (fault.Limit Depth quantity) b t right told = t
    not_ended before after asked (fault.Limit Cells quantity) b t right told = t
    not_ended before after asked (fault.Limit Held quantity) b t right told = t
    not_ended before after asked (fault.Limit Rows quantity) b t right told = t
    not_ended before after asked fault.OutOfMemory b t right told = tt

    names_meet : (first : List ℕ) (a b : List SchemaDocument) (n m : List ℕ) → a ≡ b
        → next_name first a ≡ Some n → next_name first b ≡ Some m → n ≡ m
    names_meet first a b n m is left right = some_name n m (sym left ∙ (ap (next_name first) is ∙ right))

    -- where the file is told, what was read of it is of these bytes
    told_refused : (most at : ℕ) (cause : DocCause) (o : Option (List ℕ)) (bytes : List ℕ)
        → o ≡ Some bytes → IfSome o (IsWithinRefused most at cause) → IsWithinRefused most at cause bytes
    told_refused most at cause o bytes is refused = subst (λ p. IfSome p (IsWithinRefused most at cause)) is refused

    told_longer : (most : ℕ) (o : Option (List ℕ)) (bytes : List ℕ) → o ≡ Some bytes
        → IsLonger o most → most < length bytes
    told_longer most o bytes is past = subst (λ p. IsLonger p most) is past

    module _ (one_refusal : (bytes : List ℕ) (a b n m : ℕ) → IsRefusedBy bytes a n → IsRefusedBy bytes b m
        → (a ≡ b) × (n ≡ m)) where
      document_due : (before after : FilesSeen) (asked : Request) (cause : DocCause) (place : Place)
          (name : List ℕ) (due : DocumentsFault) → IsNoDocument before after asked cause place name
          → IsDue before asked due → (fault.Document cause place name) ≡ due
      document_due before after asked cause place name (fault.Files m) t u =
          let is = ended_where_due before asked t.documents u.documents name m (refused_stops before after asked cause place name t) u.told (missing_is_due before asked m u) in
          let meet = names_meet asked.first t.documents u.documents name m is t.next.next u.next.next in
          absurd (t.there (subst (λ n. IsTrue (before.is_missing n)) (sym meet) u.missing))
      document_due before after asked cause place name (fault.Document c p m) t u =
          let is = ended_where_due before asked t.documents u.documents name m (refused_stops before after asked cause place name t) u.told (refused_is_due before asked c p m u) in
          let meet = names_meet asked.first t.documents u.documents name m is t.next.next u.next.next in
          let first = told_refused asked.most place.at cause (before.content name) u.bytes (ap before.content meet ∙ u.content) t.refused in
          let one = one_refusal u.bytes place.at p.at (document_number cause) (document_number c) first.refused u.refused in
          let number : place.document ≡ p.document = t.number ∙ (ap length is ∙ sym u.number) in
          ap (λ k. the_fault k place.document place.at name) (one_cause_of cause c one.1)
          ∙ (ap (λ k. the_fault c k place.at name) number
          ∙ (ap (λ k. the_fault c p.document k name) one.0 ∙ ap (λ n. the_fault c p.document p.at n) meet))
        where
          the_fault : DocCause → ℕ → ℕ → List ℕ → DocumentsFault
          the_fault k document at n = fault.Document k (record { document = document; at = at }) n
      document_due before after asked cause place name (fault.Limit Schema quantity) t u =
          let is = ended_where_due before asked t.documents u.1.documents name u.1.name (refused_stops before after asked cause place name t) u.1.told (long_is_due before asked u.1) in
          let meet = names_meet asked.first t.documents u.1.documents name u.1.name is t.next.next u.1.next.next in
          let first = told_refused asked.most place.at cause (before.content name) u.1.bytes (ap before.content meet ∙ u.1.content) t.refused in
          absurd (omega (arith, first.fits, u.1.longer))
      document_due before after asked cause place name (fault.Limit Schemas quantity) t u =
          let is = ended_where_due before asked t.documents u.1.documents name u.1.name (refused_stops before after asked cause place name t) u.1.told (many_are_due before asked u.1) in
          absurd (omega (arith, ap length is, t.next.room, u.1.full))
      document_due before after asked cause place name (fault.Limit Input quantity) t u = absurd u
      document_due before after asked cause place name (fault.Limit Window quantity) t u = absurd u
      document_due before after asked cause place name (fault.Limit Nodes quantity) t u = absurd u
      document_due before after asked cause place name (fault.Limit Text quantity) t u = absurd u
      document_due before after asked cause place name (fault.Limit Depth quantity) t u = absurd u
      document_due before after asked cause place name (fault.Limit Cells quantity) t u = absurd u
      document_due before after asked cause place name (fault.Limit Held quantity) t u = absurd u
      document_due before after asked cause place name (fault.Limit Rows quantity) t u = absurd u
      document_due before after asked cause place name fault.OutOfMemory t u = absurd u

      length_due : (before after : FilesSeen) (asked : Request) (quantity : ℕ) (due : DocumentsFault)
          → quantity ≡ asked.most → IsTooLong before after asked
          → IsDue before asked due → (fault.Limit Schema quantity) ≡ due
      length_due before after asked quantity (fault.Files m) told t u =
          let is = ended_where_due before asked t.documents u.documents t.name m (too_long_stops before after asked t) u.told (missing_is_due before asked m u) in
          let meet = names_meet asked.first t.documents u.documents t.name m is t.next.next u.next.next in
          absurd (t.there (subst (λ n. IsTrue (before.is_missing n)) (sym meet) u.missing))
      length_due before after asked quantity (fault.Document c p m) told t u =
          let is = ended_where_due before asked t.documents u.documents t.name m (too_long_stops before after asked t) u.told (refused_is_due before asked c p m u) in
          let meet = names_meet asked.first t.documents u.documents t.name m is t.next.next u.next.next in
          let past = told_longer asked.most (before.content t.name) u.bytes (ap before.content meet ∙ u.content) t.longer in
          absurd (omega (arith, past, u.fits))
      length_due before after asked quantity (fault.Limit Schema other) told t u = ap (fault.Limit Schema) (told ∙ sym u.0)
      length_due before after asked quantity (fault.Limit Schemas other) told t u =
          let is = ended_where_due before asked t.documents u.1.documents t.name u.1.name (too_long_stops before after asked t) u.1.told (many_are_due before asked u.1) in
          absurd (omega (arith, ap length is, t.next.room, u.1.full))
      length_due before after asked quantity (fault.Limit Input other) told t u = absurd u
      length_due before after asked quantity (fault.Limit Window other) told t u = absurd u
      length_due before after asked quantity (fault.Limit Nodes other) told t u = absurd u
      length_due before after asked quantity (fault.Limit Text other) told t u = absurd u
      length_due before after asked quantity (fault.Limit Depth other) told t u = absurd u
      length_due before after asked quantity (fault.Limit Cells other) told t u = absurd u
      length_due before after asked quantity (fault.Limit Held other) told t u = absurd u
      length_due before after asked quantity (fault.Limit Rows other) told t u = absurd u
      length_due before after asked quantity fault.OutOfMemory told t u = absurd u

      number_due : (before after : FilesSeen) (asked : Request) (quantity : ℕ) (due : DocumentsFault)
          → quantity ≡ asked.schemas → AreTooMany before after asked
          → IsDue before asked due → (fault.Limit Schemas quantity) ≡ due
      number_due before after asked quantity (fault.Files m) told t u =
          let is = ended_where_due before asked t.documents u.documents t.name m (many_stops before after asked t) u.told (missing_is_due before asked m u) in
          absurd (omega (arith, ap length is, t.full, u.next.room))
      number_due before after asked quantity (fault.Document c p m) told t u =
          let is = ended_where_due before asked t.documents u.documents t.name m (many_stops before after asked t) u.told (refused_is_due before asked c p m u) in
          absurd (omega (arith, ap length is, t.full, u.next.room))
      number_due before after asked quantity (fault.Limit Schema other) told t u =
          let is = ended_where_due before asked t.documents u.1.documents t.name u.1.name (many_stops before after asked t) u.1.told (long_is_due before asked u.1) in
          absurd (omega (arith, ap length is, t.full, u.1.next.room))
      number_due before after asked quantity (fault.Limit Schemas other) told t u = ap (fault.Limit Schemas) (told ∙ sym u.0)
      number_due before after asked quantity (fault.Limit Input other) told t u = absurd u
      number_due before after asked quantity (fault.Limit Window other) told t u = absurd u
      number_due before after asked quantity (fault.Limit Nodes other) told t u = absurd u
      number_due before after asked quantity (fault.Limit Text other) told t u = absurd u
      number_due before after asked quantity (fault.Limit Depth other) told t u = absurd u
      number_due before after asked quantity (fault.Limit Cells other) told t u = absurd u
      number_due before after asked quantity (fault.Limit Held other) told t u = absurd u
      number_due before after asked quantity (fault.Limit Rows other) told t u = absurd u
      number_due before after asked quantity fault.OutOfMemory told t u = absurd u

      pub as_due : (before after : FilesSeen) (asked : Request) (f due : DocumentsFault)
          → EndsBy before after asked f → IsDue before asked due → (f ≡ due) ⊎ IsUntold f
      as_due before after asked (fault.Files name) due t u = inr tt
      as_due before after asked (fault.Document cause place name) due t u =
          inl (document_due before after asked cause place name due t u)
      as_due before after asked (fault.Limit Schema quantity) due t u =
          inl (length_due before after asked quantity due t.0 t.1 u)
      as_due before after asked (fault.Limit Schemas quantity) due t u =
          inl (number_due before after asked quantity due t.0 t.1 u)
      as_due before after asked (fault.Limit Input quantity) due t u = absurd t
      as_due before after asked (fault.Limit Window quantity) due t u = absurd t
      as_due before after asked (fault.Limit Nodes quantity) due t u = absurd t
      as_due before after asked (fault.Limit Text quantity) due t u = absurd t
      as_due before after asked (fault.Limit Depth quantity) due t u = absurd t
      as_due before after asked (fault.Limit Cells quantity) due t u = absurd t
      as_due before after asked (fault.Limit Held quantity) due t u = absurd t
      as_due before after asked (fault.Limit Rows quantity) due t u = absurd t
      as_due before after asked fault.OutOfMemory due t u = inr tt
