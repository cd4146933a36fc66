pub mod PairsLemmas
