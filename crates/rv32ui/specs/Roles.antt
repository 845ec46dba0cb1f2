-- Which registers a vector names.
use Rattle.std.specs.Prelude.{ℕ}
use Rattle.rv32ui.specs.declared.row.Place.{Place}
use Rattle.rv32ui.specs.declared.row.Place.TheVariants.{Apart, FirstIsTarget, SecondIsTarget, AllOne, FirstZero, SecondZero, BothZero, TargetZero}
use Rattle.rv32ui.specs.declared.row.Roles.{Roles}

abbrev pub named : ℕ → ℕ → ℕ → Roles
named target first second = record { target = target; first = first; second = second }

abbrev pub roles_of : Place → Roles
roles_of Apart = named 14 1 2
roles_of FirstIsTarget = named 1 1 2
roles_of SecondIsTarget = named 2 1 2
roles_of AllOne = named 1 1 1
roles_of FirstZero = named 2 0 1
roles_of SecondZero = named 2 1 0
roles_of BothZero = named 1 0 0
roles_of TargetZero = named 0 1 2
