-- The walker's ways: its mates are the near directions.
-- Assumes nothing.
use Rattle.lengths.specs.Octile.{distance_comm}
use Rattle.ground.specs.Kind.{walkers}
use Rattle.ground.proofs.Near.{Near, near_meet}
use Rattle.ground.proofs.Ways.{Ways}
use Rattle.ground.proofs.Axes.{legal_within}
use Rattle.ground.proofs.Swap.{swap}
use Rattle.ground.proofs.Turn.{turn}
use Rattle.ground.proofs.Least.{octile_least}
use Rattle.ground.proofs.Octile.{tame_octile, octile_tame}

-- all that the theorems over both kinds ask, for the walker
abbrev pub walker_ways : Ways walkers
walker_ways =
    record {
      Mates = Near;
      meet = near_meet;
      swap = λ padded a b ρ s n c l. (swap padded a b ρ s n c l).0;
      turn = λ padded a b ρ s l c. turn padded a b ρ s l c;
      tame_apart = λ padded s ds l m. tame_octile s ds (legal_within walkers padded s ds l) m;
      apart_tame = octile_tame;
      apart_least = octile_least;
      apart_comm = λ s t. distance_comm s.x s.y t.x t.y;
      returns = record { permits_back = λ d p. p };
    }
