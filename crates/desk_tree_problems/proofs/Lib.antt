pub mod ProblemLemmas
