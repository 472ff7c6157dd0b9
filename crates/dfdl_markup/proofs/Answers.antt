-- What is owed for a step: of a state, that it is sound and what may follow goes over; of a rule,
-- that some text goes on there that keeps the rules below it.
use Rattle.std.proofs.Common.{ℕ, ◌<◌, ◌≤◌, List, ◌∷◌, Result, Ok, Err}
use Rattle.std.specs.Char.{IsScalar}
use Rattle.dfdl_layers.specs.Tellers.{Each}
use Rattle.dfdl_layers.specs.Allowed.{GoodAllowed}
use Rattle.dfdl_xml_chars.specs.Characters.{is_allowed}
use Rattle.dfdl_markup.specs.Machine.{State}
use Rattle.dfdl_markup.proofs.Rest.{From}
use Rattle.dfdl_markup.proofs.Sound.{Sound}

-- a character that is given
abbrev pub Good : ℕ → Type 0
Good c = GoodAllowed is_allowed IsScalar c

pub record Leads (s : State) (c : ℕ) (t : State) : Type 0 where
  pub sound : Sound t
  pub back : (n : ℕ) (text : List ℕ) → From n t text → From n s (c ∷ text)

-- some good characters go on behind this one, by the rules below n
pub record Told (n : ℕ) (s : State) (c : ℕ) : Type 0 where
  pub more : List ℕ
  pub good : Each Good more
  pub from : From n s (c ∷ more)

-- some good characters end the document from here, by all rules
pub record Live (s : State) : Type 0 where
  pub more : List ℕ
  pub good : Each Good more
  pub from : (n : ℕ) → From n s more

abbrev pub Answer : State → ℕ → Result State ℕ → Type 0
Answer s c (Ok t) = Leads s c t
Answer s c (Err m) = (3 ≤ m) × (m < 13) × (3 < m → Told m s c)

-- from a state that some step comes to
pub live_by : (s t : State) (c : ℕ) → Good c → Leads s c t → Live t → Live s
live_by s t c good leads live = record {
  more = c ∷ live.more;
  good = (good, live.good);
  from = λ n. leads.back n live.more (live.from n);
}
